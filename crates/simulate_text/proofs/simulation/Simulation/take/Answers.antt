use Rattle.std.proofs.Common.{refl, Some}
use Rattle.token_core.specs.HeldNet.{network_held}
use Rattle.simulate_text.specs.declared.simulation.Simulation.{Simulation}
use Rattle.simulate_text.specs.Course.{taken, takes}
use Rattle.simulate_text.specs.Reached.{simulated_in}
use Rattle.simulate_text.proofs.Carrying.{does_from, takes_part}
use Rattle.simulate_text.proofs.simulation.Simulation.take.Goals as goal

pub returns : goal.returns
returns g c =
    let old = c.args.self.now in
    let mid : Simulation g.row.R.Denot = record { net = c.go.new.net; dones = old.dones; grants = old.grants; unbroken = old.unbroken; said = old.said } in
    does_from c.taken.result (λ d w. taken d w c.args.replica c.args.event c.in_ok-answer.answer)
    (λ d w. takes d w c.args.replica c.args.event (Some c.args.done)) mid old c.taken.new.self refl
    (λ d w asked.
    let gone = c.in_ok-answer.ensures.gone d w asked.of in (
      record { of = gone.of; unbroken = c.in_ok-answer.ensures.unbroken old.unbroken.items asked.unbroken },
      takes_part d w (simulated_in old) (network_held c.go.new.net) c.args.replica c.args.event c.args.done c.in_ok-answer.answer gone.told_is gone.net_is,
    ))
    c.taken.ensures
