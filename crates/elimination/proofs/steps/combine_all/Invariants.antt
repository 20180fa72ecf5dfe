use Rattle.std.proofs.Common.{length}
use Rattle.elimination.specs.Tableaux.{IsGrown, AreCombined}
use Rattle.elimination.proofs.steps.combine_all.Given as goal

abbrev pub invariant-loop-upper : goal.invariant-loop-upper
invariant-loop-upper l = IsGrown l.rows l.initial.tableau l.tableau × AreCombined l.tableau.held l.place l.uppers l.upper-index l.lowers (length l.lowers)
