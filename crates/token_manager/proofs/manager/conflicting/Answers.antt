use Rattle.std.proofs.Common.{◌+◌, List, ◌++◌, drop, sym, ◌∙◌, ap}
use Rattle.token_protocol.specs.declared.message.EventId.{EventId}
use Rattle.token_protocol.specs.Manager.{conflicting}
use Rattle.token_manager.specs.Named.{ids_at}
use Rattle.token_manager.proofs.Listed.{conflicts_listed}
use Rattle.token_manager.proofs.Granting.{next}
use Rattle.token_manager.proofs.manager.conflicting.Goals as goal

pub loop-number-init : goal.loop-number-init
loop-number-init c =
    sym (conflicts_listed c.args.new.now.spec.now c.args.new.now.world.now c.args.new.now.call.now c.args.new.now.rivals.now c.args.new.now.rivals_are c.args.granted.now)
    ∙ ap (ids_at c.args.new.now.spec.now c.args.new.now.world.now c.args.new.now.call.now c.args.granted.now) (sym c.requires.numbers)
    ∙ ap (λ (l : List EventId). l ++ ids_at c.args.new.now.spec.now c.args.new.now.world.now c.args.new.now.call.now c.args.granted.now c.args.numbers.now) (sym c.new-ids.ensures)

pub loop-number-preserved : goal.loop-number-preserved
loop-number-preserved c =
    next c.args.new.now.spec.now c.args.new.now.world.now c.args.new.now.call.now c.args.granted.now c.args.numbers.now c.loop-number.number-index
    (conflicting c.args.new.now.spec.now c.args.new.now.world.now c.args.granted.now c.args.new.now.call.now) c.loop-number.ids c.loop-number-test.true c.loop-number.invariant
    ∙ ap (λ (l : List EventId). l ++ ids_at c.args.new.now.spec.now c.args.new.now.world.now c.args.new.now.call.now c.args.granted.now (drop (c.loop-number.number-index + 1) c.args.numbers.now)) (sym c.in_ok-add_numbered.ensures)
