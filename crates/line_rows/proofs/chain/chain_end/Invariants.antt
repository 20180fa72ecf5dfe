use Rattle.std.proofs.Common.{◌≡◌, ◌+◌, [], List, length, drop}
use Rattle.lin_rows.specs.Rows.{Row}
use Rattle.line_rows.specs.Steps.{with_steps}
use Rattle.line_rows.specs.Kept.{KeptUntil, IsChain}
use Rattle.line_rows.proofs.chain.chain_end.Given as goal

abbrev pub invariant-loop-i : goal.invariant-loop-i
invariant-loop-i l =
    (all : List Row) → KeptUntil all [] 0 l.kept
    → (now : List Row) × (with_steps all l.steps ≡ with_steps now (drop l.i l.steps)) × IsChain now l.kept l.last (length l.kept + l.i)
