use Rattle.std.proofs.Common.{arith, ◌+◌, drop, slice_index, sym, ap, ◌∙◌}
use Rattle.spec_core.specs.Specification.{op_of}
use Rattle.ground_problem.specs.Formulas.{caller}
use Rattle.ground_problem.specs.Entry.{lines_hold, calls_ready}
use Rattle.ground_groups.specs.Limited.{made_with}
use Rattle.ground_groups.specs.Calls.{constants_in}
use Rattle.ground_groups.proofs.Lists.{pair_step, pair_refused}
use Rattle.ground_groups.proofs.Ends.{ready_next, ready_end}
use Rattle.ground_groups.proofs.ready.add_ready.Goals as goal

pub returns-in-Err : goal.returns-in-Err
returns-in-Err c =
    let next = ready_next c.args.spec.now (constants_in c.args.named.now) c.args.ops.now c.args.owns.now c.loop-place.place c.index-owns-place.result (omega (arith, c.loop-place-test.true, c.min-count.ensures)) (omega (arith, c.loop-place-test.true, c.min-count.ensures)) c.index-owns-place.is in
    pair_refused (lines_hold (constants_in c.args.named.now) (caller (constants_in c.args.named.now) c.loop-place.place) (op_of c.args.spec.now (slice_index c.args.ops.now c.loop-place.place)).requires_ c.index-owns-place.result) (calls_ready c.args.spec.now (constants_in c.args.named.now) (c.loop-place.place + 1) (drop (c.loop-place.place + 1) c.args.ops.now) (drop (c.loop-place.place + 1) c.args.owns.now)) (calls_ready c.args.spec.now (constants_in c.args.named.now) c.loop-place.place (drop c.loop-place.place c.args.ops.now) (drop c.loop-place.place c.args.owns.now)) next c.in-Err.refused _ _ _ _ c.loop-place.invariant c.in-Err.ensures

pub loop-place-preserved : goal.loop-place-preserved
loop-place-preserved c =
    let next = ready_next c.args.spec.now (constants_in c.args.named.now) c.args.ops.now c.args.owns.now c.loop-place.place c.index-owns-place.result (omega (arith, c.loop-place-test.true, c.min-count.ensures)) (omega (arith, c.loop-place-test.true, c.min-count.ensures)) c.index-owns-place.is in
    pair_step (lines_hold (constants_in c.args.named.now) (caller (constants_in c.args.named.now) c.loop-place.place) (op_of c.args.spec.now (slice_index c.args.ops.now c.loop-place.place)).requires_ c.index-owns-place.result) (calls_ready c.args.spec.now (constants_in c.args.named.now) (c.loop-place.place + 1) (drop (c.loop-place.place + 1) c.args.ops.now) (drop (c.loop-place.place + 1) c.args.owns.now)) (calls_ready c.args.spec.now (constants_in c.args.named.now) c.loop-place.place (drop c.loop-place.place c.args.ops.now) (drop c.loop-place.place c.args.owns.now)) next _ _ _ _ c.in-Ok.ensures ∙ c.loop-place.invariant

pub returns : goal.returns
returns c =
    sym c.loop-place.invariant
    ∙ ap (made_with c.loop-place.grounding) (ready_end c.args.spec.now (constants_in c.args.named.now) c.loop-place.place c.args.ops.now c.args.owns.now c.loop-place.place (omega (arith, c.loop-place-test.false, c.loop-place.auto.place-end, c.min-count.ensures)))
