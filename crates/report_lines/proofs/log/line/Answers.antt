use Rattle.std.proofs.Common.{◌≡◌, ◌∙◌, List, ℕ, true, false, sym, ap, subst, arith}
use Rattle.std.specs.Prelude.{codes}
use Rattle.std.specs.Str.{bytes_eq}
use Rattle.std.proofs.lemmas.Grind.{common_steps}
use Rattle.proof_lines.specs.declared.line.Line.{Line}
use Rattle.report_lines.specs.declared.words.Words.{Words}
use Rattle.report_lines.specs.Words.{left, Gives}
use Rattle.report_lines.specs.Formats.{Read}
use Rattle.report_lines.proofs.LineCases.{resolve_read, rows_read, split_read, drop_read}
use Rattle.report_lines.proofs.log.line.Goals as goal

pub returns-then-eq : goal.returns-then-eq
returns-then-eq c =
    let word = c.in_ok-word.word.now in
    let same : bytes_eq word (codes "r") ≡ true = ap (λ (v : List ℕ). bytes_eq word v) (sym c.as_slice.ensures) ∙ sym c.eq.ensures ∙ c.if-eq.true in
    let is = resolve_read (left c.args.words) (left c.in_ok-word.rest) word c.in_ok-word.ensures same in
    subst (λ (r : Read Line). Gives (λ (x : Line × Words). (x.0, left x.1)) c.resolve.result r) is c.resolve.ensures

pub returns-then-eq-2 : goal.returns-then-eq-2
returns-then-eq-2 c =
    let word = c.in_ok-word.word.now in
    let no_resolve : bytes_eq word (codes "r") ≡ false = ap (λ (v : List ℕ). bytes_eq word v) (sym c.as_slice.ensures) ∙ sym c.eq.ensures ∙ c.if-eq.false in
    let same : bytes_eq word (codes "f") ≡ true = ap (λ (v : List ℕ). bytes_eq word v) (sym c.as_slice-2.ensures) ∙ sym c.eq-2.ensures ∙ c.if-eq-2.true in
    let is = rows_read (left c.args.words) (left c.in_ok-word.rest) word c.in_ok-word.ensures no_resolve same in
    subst (λ (r : Read Line). Gives (λ (x : Line × Words). (x.0, left x.1)) c.farkas.result r) is c.farkas.ensures

pub returns-then-eq-3 : goal.returns-then-eq-3
returns-then-eq-3 c =
    let word = c.in_ok-word.word.now in
    let no_resolve : bytes_eq word (codes "r") ≡ false = ap (λ (v : List ℕ). bytes_eq word v) (sym c.as_slice.ensures) ∙ sym c.eq.ensures ∙ c.if-eq.false in
    let no_rows : bytes_eq word (codes "f") ≡ false = ap (λ (v : List ℕ). bytes_eq word v) (sym c.as_slice-2.ensures) ∙ sym c.eq-2.ensures ∙ c.if-eq-2.false in
    let same : bytes_eq word (codes "s") ≡ true = ap (λ (v : List ℕ). bytes_eq word v) (sym c.as_slice-3.ensures) ∙ sym c.eq-3.ensures ∙ c.if-eq-3.true in
    let is = split_read (left c.args.words) (left c.in_ok-word.rest) word c.in_ok-word.ensures no_resolve no_rows same in
    subst (λ (r : Read Line). Gives (λ (x : Line × Words). (x.0, left x.1)) c.split.result r) is c.split.ensures

pub returns-then-eq-4 : goal.returns-then-eq-4
returns-then-eq-4 c =
    let word = c.in_ok-word.word.now in
    let no_resolve : bytes_eq word (codes "r") ≡ false = ap (λ (v : List ℕ). bytes_eq word v) (sym c.as_slice.ensures) ∙ sym c.eq.ensures ∙ c.if-eq.false in
    let no_rows : bytes_eq word (codes "f") ≡ false = ap (λ (v : List ℕ). bytes_eq word v) (sym c.as_slice-2.ensures) ∙ sym c.eq-2.ensures ∙ c.if-eq-2.false in
    let no_split : bytes_eq word (codes "s") ≡ false = ap (λ (v : List ℕ). bytes_eq word v) (sym c.as_slice-3.ensures) ∙ sym c.eq-3.ensures ∙ c.if-eq-3.false in
    let same : bytes_eq word (codes "d") ≡ true = ap (λ (v : List ℕ). bytes_eq word v) (sym c.as_slice-4.ensures) ∙ sym c.eq-4.ensures ∙ c.if-eq-4.true in
    let is = drop_read (left c.args.words) (left c.in_ok-word.rest) word c.in_ok-word.ensures no_resolve no_rows no_split same in
    subst (λ (r : Read Line). Gives (λ (x : Line × Words). (x.0, left x.1)) c.dropped.result r) is c.dropped.ensures

pub returns : goal.returns
returns c = grind (arith, common_steps)
