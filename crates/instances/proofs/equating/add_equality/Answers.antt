use Rattle.std.proofs.Common.{arith, ◌+◌, drop, slice_index, ◌∙◌}
use Rattle.ground_problem.specs.Constants.{of_sort}
use Rattle.ground_problem.specs.Equality.{agree_with_pairs, equality}
use Rattle.instances.proofs.Triples.{equality_next}
use Rattle.ground_groups.proofs.Lists.{pair_step, pair_refused}
use Rattle.instances.proofs.equating.add_equality.Goals as goal

pub returns-in-Err : goal.returns-in-Err
returns-in-Err c =
    let i = c.loop-place.place in
    pair_refused (agree_with_pairs i (of_sort (i + 1) (drop (i + 1) c.args.sorts.now) (slice_index c.args.sorts.now i))) (equality (i + 1) (drop (i + 1) c.args.sorts.now)) (equality i (drop i c.args.sorts.now))
    (equality_next c.args.sorts.now i (omega (arith, c.loop-place-test.true))) c.in-Err.refused _ _ _ _ c.loop-place.invariant c.in-Err.ensures

pub loop-place-preserved : goal.loop-place-preserved
loop-place-preserved c =
    let i = c.loop-place.place in
    pair_step (agree_with_pairs i (of_sort (i + 1) (drop (i + 1) c.args.sorts.now) (slice_index c.args.sorts.now i))) (equality (i + 1) (drop (i + 1) c.args.sorts.now)) (equality i (drop i c.args.sorts.now))
    (equality_next c.args.sorts.now i (omega (arith, c.loop-place-test.true))) _ _ _ _ c.in-Ok.ensures ∙ c.loop-place.invariant
