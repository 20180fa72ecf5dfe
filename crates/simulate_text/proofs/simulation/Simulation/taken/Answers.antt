use Rattle.std.proofs.Common.{refl, Result, Ok, ap}
use Rattle.token_protocol.specs.declared.network.NetDid.{NetDid}
use Rattle.simulate_text.specs.declared.said.SimulateRefused.{SimulateRefused}
use Rattle.simulate_text.specs.Course.{taken}
use Rattle.simulate_text.specs.Reached.{simulated_in}
use Rattle.simulate_text.proofs.Carrying.{does_from}
use Rattle.simulate_text.proofs.simulation.Simulation.taken.Goals as goal

pub returns-in-Ok : goal.returns-in-Ok
returns-in-Ok g c =
    let old = c.args.self.now in let r = c.args.replica in let e = c.args.event in
    does_from c.heard_done.result (λ d w. taken d w r e (Ok c.in-Ok.did)) (λ d w. taken d w r e c.args.answer) old old c.heard_done.new.self refl
    (λ d w asked. (asked, ap (λ (x : Result NetDid SimulateRefused). taken d w r e x (simulated_in old)) c.in-Ok.is)) c.heard_done.ensures
