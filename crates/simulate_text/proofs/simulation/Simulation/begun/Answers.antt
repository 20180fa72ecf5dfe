use Rattle.std.proofs.Common.{refl, Result, Ok, ap, ◌∙◌}
use Rattle.token_protocol.specs.declared.network.NetDid.{NetDid}
use Rattle.simulate_text.specs.declared.said.SimulateRefused.{SimulateRefused}
use Rattle.simulate_text.specs.Course.{ran, void, asks, begun}
use Rattle.simulate_text.specs.Reached.{simulated_in}
use Rattle.simulate_text.proofs.Carrying.{does_from}
use Rattle.simulate_text.proofs.simulation.Simulation.begun.Goals as goal

pub returns-in-Ok-Ran : goal.returns-in-Ok-Ran
returns-in-Ok-Ran g c =
    let old = c.args.self.now in
    does_from c.ran.result (λ d w. ran d w c.args.replica c.in-Ok-Ran.event c.args.sent) (λ d w. begun d w c.args.replica c.args.sent c.args.answer) old old c.ran.new.self refl
    (λ d w asked. (asked, ap (λ (x : Result NetDid SimulateRefused). begun d w c.args.replica c.args.sent x (simulated_in old)) (c.in-Ok-Ran.is ∙ ap Ok c.in-Ok-Ran.field-0-is))) c.ran.ensures

pub returns-in-Ok-Void : goal.returns-in-Ok-Void
returns-in-Ok-Void g c =
    let old = c.args.self.now in
    does_from c.void.result (λ d w. void d w c.in-Ok-Void.why c.in-Ok-Void.message) (λ d w. begun d w c.args.replica c.args.sent c.args.answer) old old c.void.new.self refl
    (λ d w asked. (asked, ap (λ (x : Result NetDid SimulateRefused). begun d w c.args.replica c.args.sent x (simulated_in old)) (c.in-Ok-Void.is ∙ ap Ok c.in-Ok-Void.field-0-is))) c.void.ensures

pub returns-in-Ok-Asked : goal.returns-in-Ok-Asked
returns-in-Ok-Asked g c =
    let old = c.args.self.now in
    does_from c.ask.result (λ d w. asks d w c.args.replica c.in-Ok-Asked.request) (λ d w. begun d w c.args.replica c.args.sent c.args.answer) old old c.ask.new.self refl
    (λ d w asked. (asked, ap (λ (x : Result NetDid SimulateRefused). begun d w c.args.replica c.args.sent x (simulated_in old)) (c.in-Ok-Asked.is ∙ ap Ok c.in-Ok-Asked.field-0-is))) c.ask.ensures
