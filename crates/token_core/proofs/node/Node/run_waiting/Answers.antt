use Rattle.std.proofs.Common.{None, refl, ap}
use Rattle.token_protocol.specs.Node.{without_waiting}
use Rattle.token_core.specs.Held.{HeldNode, node_of}
use Rattle.token_core.proofs.Running.{waiting_heard}
use Rattle.token_core.proofs.node.Node.run_waiting.Goals as goal

pub returns-clause-heard : goal.returns-clause-heard
returns-clause-heard g c =
    let i = c.self.inside in
    let after : HeldNode = record { replica = i.replica; turn = i.turn; state = i.state; taken = i.taken; void = i.void; waiting = None } in
    waiting_heard (g.R.Runner.specification c.args.runner.now) (g.R.Runner.setting c.args.runner.now) c.args.self.now c.run.new.self c.args.id c.args.call c.args.call c.in_ok-ended.ended
    refl c.in_ok-ended.ensures.run.ended c.in_ok-ended.ensures.run.node after c.heard.result c.heard.ensures
    (ap (λ (n : HeldNode). without_waiting (node_of n)) c.self.view_is)
