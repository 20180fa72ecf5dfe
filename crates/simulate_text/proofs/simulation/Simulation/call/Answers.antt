use Rattle.std.proofs.Common.{refl, length, sym, ap, ◌∙◌}
use Rattle.token_core.specs.HeldNet.{network_held}
use Rattle.simulate_text.specs.declared.simulation.Simulation.{Simulation}
use Rattle.simulate_text.specs.Course.{begun, begins}
use Rattle.simulate_text.specs.Reached.{simulated_in}
use Rattle.simulate_text.proofs.Carrying.{does_from, begins_part}
use Rattle.simulate_text.proofs.simulation.Simulation.call.Goals as goal

pub returns : goal.returns
returns g c =
    let old = c.args.self.now in
    let mid : Simulation g.row.R.Denot = record { net = c.go.new.net; dones = old.dones; grants = old.grants; unbroken = old.unbroken; said = old.said } in
    does_from c.begun.result (λ d w. begun d w c.args.replica c.in_ok-sent.sent c.in_ok-answer.answer)
    (λ d w. begins d w c.args.replica c.args.call) mid old c.begun.new.self refl
    (λ d w asked.
    let gone = c.in_ok-answer.ensures.gone d w asked.of in (
      record { of = gone.of; unbroken = c.in_ok-answer.ensures.unbroken old.unbroken.items asked.unbroken },
      begins_part d w (simulated_in old) (network_held c.go.new.net) c.args.replica c.in_ok-sent.sent c.args.call c.in_ok-answer.answer
          (sym (c.in_ok-sent.ensures ∙ ap length c.messages.ensures)) gone.told_is gone.net_is,
    ))
    c.begun.ensures
