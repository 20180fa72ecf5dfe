use Rattle.std.proofs.Common.{◌≡◌, ◌∙◌, List, ℕ, true, false, sym, ap, subst, arith}
use Rattle.std.specs.Prelude.{codes}
use Rattle.std.specs.Str.{bytes_eq}
use Rattle.std.proofs.lemmas.Grind.{common_steps}
use Rattle.report_lines.specs.declared.words.Words.{Words}
use Rattle.report_lines.specs.declared.evidence.RangeLine.{RangeLine}
use Rattle.report_lines.specs.Words.{left, Gives}
use Rattle.report_lines.specs.Formats.{Read}
use Rattle.report_lines.proofs.RangeCases.{product_read, value_read, sum_read}
use Rattle.report_lines.proofs.evidence.read_range.Goals as goal

pub returns-then-eq : goal.returns-then-eq
returns-then-eq c =
    let word = c.in_ok-word.word.now in
    let same : bytes_eq word (codes "product") ≡ true = ap (λ (v : List ℕ). bytes_eq word v) (sym c.as_slice.ensures) ∙ sym c.eq.ensures ∙ c.if-eq.true in
    let is = product_read (left c.args.words) (left c.in_ok-word.rest) word c.in_ok-word.ensures same in
    subst (λ (r : Read RangeLine). Gives (λ (x : RangeLine × Words). (x.0, left x.1)) c.product.result r) is c.product.ensures

pub returns-then-eq-2 : goal.returns-then-eq-2
returns-then-eq-2 c =
    let word = c.in_ok-word.word.now in
    let no_product : bytes_eq word (codes "product") ≡ false = ap (λ (v : List ℕ). bytes_eq word v) (sym c.as_slice.ensures) ∙ sym c.eq.ensures ∙ c.if-eq.false in
    let same : bytes_eq word (codes "value") ≡ true = ap (λ (v : List ℕ). bytes_eq word v) (sym c.as_slice-2.ensures) ∙ sym c.eq-2.ensures ∙ c.if-eq-2.true in
    let is = value_read (left c.args.words) (left c.in_ok-word.rest) word c.in_ok-word.ensures no_product same in
    subst (λ (r : Read RangeLine). Gives (λ (x : RangeLine × Words). (x.0, left x.1)) c.value.result r) is c.value.ensures

pub returns-then-eq-3 : goal.returns-then-eq-3
returns-then-eq-3 c =
    let word = c.in_ok-word.word.now in
    let no_product : bytes_eq word (codes "product") ≡ false = ap (λ (v : List ℕ). bytes_eq word v) (sym c.as_slice.ensures) ∙ sym c.eq.ensures ∙ c.if-eq.false in
    let no_value : bytes_eq word (codes "value") ≡ false = ap (λ (v : List ℕ). bytes_eq word v) (sym c.as_slice-2.ensures) ∙ sym c.eq-2.ensures ∙ c.if-eq-2.false in
    let same : bytes_eq word (codes "sum") ≡ true = ap (λ (v : List ℕ). bytes_eq word v) (sym c.as_slice-3.ensures) ∙ sym c.eq-3.ensures ∙ c.if-eq-3.true in
    let is = sum_read (left c.args.words) (left c.in_ok-word.rest) word c.in_ok-word.ensures no_product no_value same in
    subst (λ (r : Read RangeLine). Gives (λ (x : RangeLine × Words). (x.0, left x.1)) c.sum.result r) is c.sum.ensures

pub returns : goal.returns
returns c = grind (arith, common_steps)
