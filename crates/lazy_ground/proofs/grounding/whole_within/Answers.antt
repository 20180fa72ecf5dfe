use Rattle.std.proofs.Common.{length, sym, ◌∙◌}
use Rattle.std.proofs.lemmas.Bool.{ltb-true}
use Rattle.ground_problem.specs.Problem.{formulas_of, most_formulas}
use Rattle.lazy_ground.proofs.grounding.whole_within.Goals as goal

pub returns-then-has_too_many-clause-ground : goal.returns-then-has_too_many-clause-ground
returns-then-has_too_many-clause-ground c =
    ltb-true most_formulas (length (formulas_of c.args.spec.now c.args.ob.now)) (sym c.has_too_many.ensures ∙ c.if-has_too_many.true)

pub returns-then-has_too_many-clause-kept : goal.returns-then-has_too_many-clause-kept
returns-then-has_too_many-clause-kept c = c.into_kept.ensures c.args.spec.now c.args.ob.now c.requires.front
