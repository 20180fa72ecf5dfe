use Rattle.std.proofs.Common.{[], ◌∷◌}
use Rattle.elimination.specs.Tableaux.{IsGrown, AreCombined}
use Rattle.elimination.proofs.steps.combine_one.Given as goal

abbrev pub invariant-loop-lower : goal.invariant-loop-lower
invariant-loop-lower l = IsGrown l.rows l.initial.tableau l.tableau × AreCombined l.tableau.held l.place (l.upper ∷ []) 1 l.lowers l.lower-index
