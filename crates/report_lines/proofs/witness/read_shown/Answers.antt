use Rattle.std.proofs.Common.{◌≡◌, ◌∙◌, List, ℕ, true, false, sym, ap, subst, arith}
use Rattle.std.specs.Prelude.{codes}
use Rattle.std.specs.Str.{bytes_eq}
use Rattle.std.proofs.lemmas.Grind.{common_steps}
use Rattle.report_lines.specs.declared.words.Words.{Words}
use Rattle.report_lines.specs.Words.{left, Gives}
use Rattle.report_lines.specs.Formats.{Read}
use Rattle.report_lines.specs.declared.witness.Shown.{Shown}
use Rattle.report_lines.proofs.ShownCases.{reading_read}
use Rattle.report_lines.proofs.witness.read_shown.Goals as goal

pub returns-then-eq : goal.returns-then-eq
returns-then-eq c = grind (arith, common_steps)

pub returns-then-eq-2 : goal.returns-then-eq-2
returns-then-eq-2 c =
    let word = c.in_ok-word.word.now in
    let other : bytes_eq word (codes "true") ≡ false = ap (λ (v : List ℕ). bytes_eq word v) (sym c.as_slice.ensures) ∙ sym c.eq.ensures ∙ c.if-eq.false in
    let same : bytes_eq word (codes "count") ≡ true = ap (λ (v : List ℕ). bytes_eq word v) (sym c.as_slice-2.ensures) ∙ sym c.eq-2.ensures ∙ c.if-eq-2.true in
    let is = reading_read c.args.spec.now c.args.world.now c.args.due (left c.args.words) (left c.in_ok-word.rest) word c.in_ok-word.ensures other same in
    subst (λ (r : Read Shown). Gives (λ (x : Shown × Words). (x.0, left x.1)) c.read_reading.result r) is c.read_reading.ensures

pub returns-then-eq-3 : goal.returns-then-eq-3
returns-then-eq-3 c = grind (arith, common_steps)

pub returns-then-eq-4 : goal.returns-then-eq-4
returns-then-eq-4 c = grind (arith, common_steps)

pub returns : goal.returns
returns c = grind (arith, common_steps)
