use Rattle.std.proofs.Common.{arith, ◌+◌, drop, slice_index, ◌∙◌}
use Rattle.std.specs.List.{flat_map}
use Rattle.ground_problem.specs.Equality.{three_agree, agree_with_pairs}
use Rattle.instances.proofs.Triples.{pairs_next}
use Rattle.ground_groups.proofs.Lists.{pair_step, pair_refused}
use Rattle.instances.proofs.equating.add_pairs.Goals as goal

pub returns-in-Err : goal.returns-in-Err
returns-in-Err c =
    let i = c.loop-place.place in
    pair_refused (flat_map (three_agree c.args.a (slice_index c.args.later.now i)) (drop (i + 1) c.args.later.now)) (agree_with_pairs c.args.a (drop (i + 1) c.args.later.now)) (agree_with_pairs c.args.a (drop i c.args.later.now))
    (pairs_next c.args.a c.args.later.now i (omega (arith, c.loop-place-test.true))) c.in-Err.refused _ _ _ _ c.loop-place.invariant c.in-Err.ensures

pub loop-place-preserved : goal.loop-place-preserved
loop-place-preserved c =
    let i = c.loop-place.place in
    pair_step (flat_map (three_agree c.args.a (slice_index c.args.later.now i)) (drop (i + 1) c.args.later.now)) (agree_with_pairs c.args.a (drop (i + 1) c.args.later.now)) (agree_with_pairs c.args.a (drop i c.args.later.now))
    (pairs_next c.args.a c.args.later.now i (omega (arith, c.loop-place-test.true))) _ _ _ _ c.in-Ok.ensures ∙ c.loop-place.invariant
