use Rattle.std.proofs.Common.{◌≡◌, ◌∷◌, [], ◌∙◌, ap, subst, true, rules, List, Option, Bool}
use Rattle.std.specs.Prelude.{IfOk}
use Rattle.lin_rows.specs.Rows.{Row}
use Rattle.line_rows.specs.Steps.{line_rows}
use Rattle.line_rows.specs.Kept.{kept_at, HasKept, all_cancel_in, beyond_in}
use Rattle.line_rows.proofs.KeptLines.{shown-kept}
use Rattle.line_rows.proofs.evidence.shows_range.Goals as goal

pub returns-in-Ok-Some : goal.returns-in-Ok-Some
returns-in-Ok-Some c =
    let first = c.first_named-first.result in
    let second = c.second_named-second.result in
    let given = line_rows c.args.atoms.now c.args.used.now c.args.steps.now in
    let h : HasKept given (first ∷ second ∷ []) c.in-Ok-Some.rows.items × (all_cancel_in given c.args.steps.now ≡ true) = search rules in
    subst (λ (v : Bool). IfOk c.is_beyond.result (λ b. b ≡ v))
    (ap (λ (l : List (Option Row)). beyond_in (kept_at l first) (kept_at l second) c.args.what.now) c.as_slice.ensures.value
    ∙ shown-kept given c.args.steps.now c.args.what.now first second c.in-Ok-Some.rows.items h.0 h.1 c.first_named-first.ensures c.second_named-second.ensures)
    c.is_beyond.ensures
