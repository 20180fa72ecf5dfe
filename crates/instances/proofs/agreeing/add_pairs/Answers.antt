use Rattle.std.proofs.Common.{arith, ◌+◌, drop, map, ◌∙◌}
use Rattle.ground_problem.specs.Equality.{congruent, congruent_pairs}
use Rattle.instances.proofs.Tuples.{congruent_next}
use Rattle.ground_groups.proofs.Lists.{pair_step, pair_refused}
use Rattle.instances.proofs.agreeing.add_pairs.Goals as goal

pub returns-in-Err : goal.returns-in-Err
returns-in-Err c =
    let i = c.loop-place.place in
    pair_refused (map (congruent c.args.thing c.index-tuples-place.result) (drop (i + 1) c.args.tuples.now)) (congruent_pairs c.args.thing (drop (i + 1) c.args.tuples.now)) (congruent_pairs c.args.thing (drop i c.args.tuples.now))
    (congruent_next c.args.thing c.args.tuples.now i c.index-tuples-place.result (omega (arith, c.loop-place-test.true)) c.index-tuples-place.is) c.in-Err.refused _ _ _ _ c.loop-place.invariant c.in-Err.ensures

pub loop-place-preserved : goal.loop-place-preserved
loop-place-preserved c =
    let i = c.loop-place.place in
    pair_step (map (congruent c.args.thing c.index-tuples-place.result) (drop (i + 1) c.args.tuples.now)) (congruent_pairs c.args.thing (drop (i + 1) c.args.tuples.now)) (congruent_pairs c.args.thing (drop i c.args.tuples.now))
    (congruent_next c.args.thing c.args.tuples.now i c.index-tuples-place.result (omega (arith, c.loop-place-test.true)) c.index-tuples-place.is) _ _ _ _ c.in-Ok.ensures ∙ c.loop-place.invariant
