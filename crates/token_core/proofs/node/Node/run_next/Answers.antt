use Rattle.std.proofs.Common.{◌+◌, ap}
use Rattle.token_protocol.specs.Node.{with_turn}
use Rattle.token_core.specs.Held.{HeldNode, node_of}
use Rattle.token_core.proofs.Running.{next_begun}
use Rattle.token_core.proofs.node.Node.run_next.Goals as goal

pub returns-clause-begun : goal.returns-clause-begun
returns-clause-begun g c =
    let i = c.self-2.inside in
    let after : HeldNode = record { replica = i.replica; turn = i.turn + 1; state = i.state; taken = i.taken; void = i.void; waiting = i.waiting } in
    next_begun (g.R.Runner.specification c.args.runner.now) (g.R.Runner.setting c.args.runner.now) c.args.self.now c.run.new.self c.args.id c.args.call.now c.in_ok-call.call c.in_ok-ended.ended
    c.in_ok-call.ensures c.in_ok-ended.ensures.run.ended c.in_ok-ended.ensures.run.node after c.begun.result c.begun.ensures c.requires.free
    (ap (λ (n : HeldNode). with_turn (node_of n)) c.self-2.view_is)
