use Rattle.std.proofs.Common.{◌≡◌, List, drop}
use Rattle.lin_rows.specs.Rows.{Row}
use Rattle.line_rows.specs.Steps.{with_steps}
use Rattle.line_rows.specs.Kept.{KeptUntil, all_cancel_in}
use Rattle.line_rows.proofs.evidence.take_cancelling.Given as goal

abbrev pub invariant-loop-i : goal.invariant-loop-i
invariant-loop-i l =
    (all : List Row) → KeptUntil all l.ends 0 l.initial.rows.items
    → (now : List Row) × (with_steps all l.steps ≡ with_steps now (drop l.i l.steps)) × KeptUntil now l.ends l.i l.rows.items
    × (all_cancel_in (with_steps all l.steps) l.steps ≡ all_cancel_in (with_steps now (drop l.i l.steps)) (drop l.i l.steps))
