use Rattle.std.proofs.Common.{◌≡◌, ◌<◌, length, get_or, Some, arith}
use Rattle.std.specs.Prelude.{slice_get}
use Rattle.spec_core.specs.declared.world.Call.{Call}
use Rattle.executions.specs.Orders.{Event}
use Rattle.executions.proofs.Folding.{follows_more, beyond_here, read_at}
use Rattle.executions.proofs.state.state_after.Goals as goal

pub loop-number-preserved : goal.loop-number-preserved
loop-number-preserved c =
    let event : Event Call = record { call = c.event.inside.call; seen = c.event.inside.seen } in
    let order = c.args.order.now in let events = c.args.events.now in
    let i = c.loop-number.number-index in
    let lt : get_or order i 0 < length events = c.requires.events i 0 c.loop-number-test.true in
    let here : slice_get events (get_or order i 0) ≡ Some event = read_at events (get_or order i 0) c.index-events-number.result event lt c.index-events-number.is c.event.view_is in
    follows_more c.args.spec.now c.args.world.now events order i c.loop-number.state event c.loop-number.invariant c.loop-number-test.true here c.in-Ok.next c.in-Ok.ensures.reads c.in-Ok.ensures.in_range c.in-Ok.ensures.fits

pub returns-in-Err-clause-range : goal.returns-in-Err-clause-range
returns-in-Err-clause-range c b is =
    let event : Event Call = record { call = c.event.inside.call; seen = c.event.inside.seen } in
    let order = c.args.order.now in let events = c.args.events.now in
    let i = c.loop-number.number-index in
    let lt : get_or order i 0 < length events = c.requires.events i 0 c.loop-number-test.true in
    let here : slice_get events (get_or order i 0) ≡ Some event = read_at events (get_or order i 0) c.index-events-number.result event lt c.index-events-number.is c.event.view_is in
    beyond_here c.args.spec.now c.args.world.now events order i c.loop-number.state event c.loop-number.invariant c.loop-number-test.true here b (c.in-Err.ensures.range b is)

pub returns-clause-in_range : goal.returns-clause-in_range
returns-clause-in_range c = λ i e event lt. let past = c.loop-number-test.false in c.loop-number.invariant.in_range i e event (omega (arith, lt, past))
