use Rattle.std.proofs.Common.{ℕ, ◌<◌}
use Rattle.diff_bounds.specs.Edges.{edge_at}
use Rattle.diff_bounds.specs.States.{IsSettledNow}
use Rattle.diff_bounds.proofs.relaxing.are_settled.Given as goal

abbrev pub invariant-loop-number : goal.invariant-loop-number
invariant-loop-number l = (i : ℕ) → i < l.number → IsSettledNow l.walks (edge_at l.edges i)
