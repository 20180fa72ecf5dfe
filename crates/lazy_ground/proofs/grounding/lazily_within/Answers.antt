use Rattle.std.proofs.Common.{length, sym, ◌∙◌}
use Rattle.std.proofs.lemmas.Bool.{ltb-true, ltb-false}
use Rattle.ground_problem.specs.Problem.{formulas_of, most_formulas}
use Rattle.lazy_ground.proofs.grounding.lazily_within.Goals as goal

pub returns-then-has_too_many_beside-clause-ground : goal.returns-then-has_too_many_beside-clause-ground
returns-then-has_too_many_beside-clause-ground c =
    ltb-true most_formulas (length (formulas_of c.args.spec.now c.args.ob.now)) (sym c.has_too_many_beside.ensures ∙ c.if-has_too_many_beside.true)

pub lazily-requires-clause-few : goal.lazily-requires-clause-few
lazily-requires-clause-few c =
    ltb-false most_formulas (length (formulas_of c.args.spec.now c.args.ob.now)) (sym c.has_too_many_beside.ensures ∙ c.if-has_too_many_beside.false)

pub returns-then-has_too_many_beside-clause-kept : goal.returns-then-has_too_many_beside-clause-kept
returns-then-has_too_many_beside-clause-kept c = c.into_kept.ensures c.args.spec.now c.args.ob.now c.requires.front

pub into_kept-requires : goal.into_kept-requires
into_kept-requires c = (c.requires.pairs.built, c.requires.pairs.numbered)
