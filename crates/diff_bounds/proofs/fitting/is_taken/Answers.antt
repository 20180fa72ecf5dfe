use Rattle.std.proofs.Common.{rules, ◌∙◌, FitsSigned, to_z-of_z}
use mir.Syntax.{w128}
use Rattle.diff_bounds.proofs.FittingLemmas.{taken-code}
use Rattle.diff_bounds.proofs.fitting.is_taken.Goals as goal

pub returns : goal.returns
returns c =
    let f : FitsSigned w128 c.bound.result = search rules in
    taken-code c.args.ints c.args.row.now _ _ _ c.bound.ensures.row c.terms.ensures.terms (to_z-of_z f ∙ c.bound.ensures.bound) c.is_simple.ensures
