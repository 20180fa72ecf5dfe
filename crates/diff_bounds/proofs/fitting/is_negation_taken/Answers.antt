use Rattle.std.proofs.Common.{rules, sym, ◌∙◌, FitsSigned, to_z-of_z}
use mir.Syntax.{w128}
use Rattle.diff_bounds.proofs.FittingLemmas.{negation-code, negation-missing}
use Rattle.diff_bounds.proofs.fitting.is_negation_taken.Goals as goal

pub returns-in-Some : goal.returns-in-Some
returns-in-Some c =
    let f : FitsSigned w128 c.bound.result = search rules in
    let g : FitsSigned w128 c.in-Some.bound = search rules in
    negation-code c.args.ints c.args.row.now _ _ c.in-Some.bound _ _ c.bound.ensures.row c.terms.ensures.terms (to_z-of_z f ∙ c.bound.ensures.bound) (sym c.below_minus.ensures ∙ c.in-Some.is) (to_z-of_z g) c.is_simple.ensures

pub returns-in-None : goal.returns-in-None
returns-in-None c =
    let f : FitsSigned w128 c.bound.result = search rules in
    negation-missing c.args.ints c.args.row.now _ (to_z-of_z f ∙ c.bound.ensures.bound) (sym c.below_minus.ensures ∙ c.in-None.is)
