use Rattle.std.proofs.Common.{List, ◌+◌, ◌++◌, drop, sym, ◌∙◌, ap, arith}
use Rattle.token_protocol.specs.declared.message.EventId.{EventId}
use Rattle.token_protocol.specs.Manager.{conflicting}
use Rattle.token_manager.proofs.Granting.{next_earlier, all_added}
use Rattle.token_manager.proofs.manager.add_from.Goals as goal

pub loop-number-preserved : goal.loop-number-preserved
loop-number-preserved c =
    let d = c.args.new.now.spec.now in
    let w = c.args.new.now.world.now in
    let call = c.args.new.now.call.now in
    let granted = c.args.granted.now in
    next_earlier d w call granted c.loop-number.number c.index-granted-number.result (c.args.ids.now ++ conflicting d w (drop c.args.from granted) call) c.loop-number.ids
    c.loop-number-test.true c.index-granted-number.is c.loop-number.invariant
    ∙ ap (λ (l : List EventId). l ++ conflicting d w (drop (c.loop-number.number + 1) granted) call) (sym c.in_ok-add_conflicting.ensures)

pub returns : goal.returns
returns c =
    all_added c.args.new.now.spec.now c.args.new.now.world.now c.args.new.now.call.now c.args.granted.now c.loop-number.number (omega (arith, c.loop-number-test.false))
    (c.args.ids.now ++ conflicting c.args.new.now.spec.now c.args.new.now.world.now (drop c.args.from c.args.granted.now) c.args.new.now.call.now) c.loop-number.ids c.loop-number.invariant
