use Rattle.std.proofs.Common.{◌≡◌, length}
use Rattle.elimination.specs.Tableaux.{IsElimination}
use Rattle.elimination.proofs.eliminate.eliminate_all.Given as goal

abbrev pub invariant-places : goal.invariant-places
invariant-places l = IsElimination l.rows l.tableau × (l.tableau.ints ≡ l.initial.tableau.ints)

abbrev pub decreases-places : goal.decreases-places
decreases-places l = length l.tableau.left
