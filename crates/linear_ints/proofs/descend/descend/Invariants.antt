use Rattle.std.proofs.Common.{◌≤◌, length}
use Rattle.linear_ints.specs.Descending.{IsDescent}
use Rattle.linear_ints.proofs.descend.descend.Given as goal

abbrev pub invariant-stages : goal.invariant-stages
invariant-stages l = IsDescent l.tableau l.stage l.values.items × (l.stage ≤ length l.tableau.order)

abbrev pub decreases-stages : goal.decreases-stages
decreases-stages l = l.stage
