use Rattle.std.proofs.Common.{refl, length, sym, ap, ◌∙◌}
use Rattle.token_core.specs.HeldNet.{network_held}
use Rattle.simulate_text.specs.declared.simulation.Simulation.{Simulation}
use Rattle.simulate_text.specs.Course.{granted, hears_grant}
use Rattle.simulate_text.specs.Reached.{simulated_in}
use Rattle.simulate_text.proofs.Carrying.{grant_heard, does_from, hears_part}
use Rattle.simulate_text.proofs.simulation.Simulation.hear_grant.Goals as goal

pub returns : goal.returns
returns g c =
    let old = c.args.self.now in
    let mid : Simulation g.row.R.Denot = record { net = c.go.new.net; dones = old.dones; grants = old.grants; unbroken = old.unbroken; said = old.said } in
    does_from c.granted.result (λ d w. granted d w (grant_heard c.args.replica c.in_ok-sent.sent c.args.tells) c.in_ok-answer.answer)
    (λ d w. hears_grant d w c.args.replica c.args.message c.args.tells) mid old c.granted.new.self refl
    (λ d w asked.
    let gone = c.in_ok-answer.ensures.gone d w asked.of in (
      record { of = gone.of; unbroken = c.in_ok-answer.ensures.unbroken old.unbroken.items asked.unbroken },
      hears_part d w (simulated_in old) (network_held c.go.new.net) c.args.replica c.args.message c.in_ok-sent.sent c.args.tells c.in_ok-answer.answer
          (sym (c.in_ok-sent.ensures ∙ ap length c.messages.ensures)) gone.told_is gone.net_is,
    ))
    c.granted.ensures
