use Rattle.std.proofs.Common.{sym, subst, get_or, arith}
use Rattle.token_protocol.specs.Network.{events_of}
use Rattle.token_core.specs.HeldNet.{network_held}
use Rattle.simulate_text.specs.Unbroken.{IsLastCall}
use Rattle.replica_replay.proofs.Answering.{found_at}
use Rattle.simulate_text.proofs.Unbroken.{last_here}
use Rattle.simulate_text.proofs.simulation.last_call.Goals as goal

pub returns : goal.returns
returns g c at here =
    let net = c.args.net.now in let taken = c.taken-taken.result.now in let h = c.in-Some.happened.now in let look = c.in-Some.ensures.lookup in
    let stands = found_at c.events.result.now net.happened (get_or taken c.args.count 0) h c.events.ensures look.0 look.1 in
    subst (IsLastCall (events_of (network_held net)) at.taken c.args.count) (sym c.call_of.ensures)
    (last_here net c.args.replica c.args.count 0 taken h c.taken-taken.ensures (omega (arith, c.if-count-taken.false)) (omega (arith, c.if-count-taken.false, c.if-taken-count-gt1.false)) stands at here)
