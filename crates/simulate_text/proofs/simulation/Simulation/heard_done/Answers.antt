use Rattle.std.proofs.Common.{refl, Ok, ap}
use Rattle.token_protocol.specs.declared.network.NetDid.{NetDid}
use Rattle.simulate_text.specs.Course.{took, taken}
use Rattle.simulate_text.specs.Reached.{simulated_in}
use Rattle.simulate_text.proofs.Carrying.{does_from}
use Rattle.simulate_text.proofs.simulation.Simulation.heard_done.Goals as goal

pub returns-in-Took : goal.returns-in-Took
returns-in-Took g c =
    let old = c.args.self.now in let r = c.args.replica in let e = c.args.event in
    does_from c.took.result (λ d w. took d w r e) (λ d w. taken d w r e (Ok c.args.did.now)) old old c.took.new.self refl
    (λ d w asked. (asked, ap (λ (x : NetDid). taken d w r e (Ok x) (simulated_in old)) c.in-Took.is)) c.took.ensures
