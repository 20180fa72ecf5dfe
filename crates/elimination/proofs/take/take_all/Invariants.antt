use Rattle.std.proofs.Common.{◌≡◌}
use Rattle.elimination.specs.Tableaux.{IsTaking}
use Rattle.elimination.proofs.take.take_all.Given as goal

abbrev pub invariant-loop-number : goal.invariant-loop-number
invariant-loop-number l = IsTaking l.rows l.number l.tableau × (l.tableau.ints ≡ l.initial.tableau.ints)
