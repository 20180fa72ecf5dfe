use Rattle.std.proofs.Common.{arith, ◌+◌, drop, slice_index, ◌∙◌}
use Rattle.std.specs.List.{flat_map}
use Rattle.ground_problem.specs.Equality.{three_agree}
use Rattle.instances.proofs.Triples.{triples_next}
use Rattle.ground_groups.proofs.Lists.{pair_step, pair_refused}
use Rattle.instances.proofs.equating.add_triples.Goals as goal

pub returns-in-Err : goal.returns-in-Err
returns-in-Err c =
    let i = c.loop-place.place in
    pair_refused (three_agree c.args.a c.args.b (slice_index c.args.later.now i)) (flat_map (three_agree c.args.a c.args.b) (drop (i + 1) c.args.later.now)) (flat_map (three_agree c.args.a c.args.b) (drop i c.args.later.now))
    (triples_next c.args.a c.args.b c.args.later.now i (omega (arith, c.loop-place-test.true))) c.in-Err.refused _ _ _ _ c.loop-place.invariant c.in-Err.ensures

pub loop-place-preserved : goal.loop-place-preserved
loop-place-preserved c =
    let i = c.loop-place.place in
    pair_step (three_agree c.args.a c.args.b (slice_index c.args.later.now i)) (flat_map (three_agree c.args.a c.args.b) (drop (i + 1) c.args.later.now)) (flat_map (three_agree c.args.a c.args.b) (drop i c.args.later.now))
    (triples_next c.args.a c.args.b c.args.later.now i (omega (arith, c.loop-place-test.true))) _ _ _ _ c.in-Ok.ensures ∙ c.loop-place.invariant
