use Rattle.std.proofs.Common.{refl, true, length, sym, ap, ◌∙◌}
use Rattle.token_core.specs.HeldNet.{network_held}
use Rattle.simulate_text.specs.declared.simulation.Simulation.{Simulation}
use Rattle.simulate_text.specs.Course.{asks, hears_grant}
use Rattle.simulate_text.specs.Reached.{simulated_in}
use Rattle.simulate_text.proofs.Carrying.{does_from, asks_part}
use Rattle.simulate_text.proofs.simulation.Simulation.ask.Goals as goal

pub returns : goal.returns
returns g c =
    let old = c.args.self.now in
    let mid : Simulation g.row.R.Denot = record { net = c.go-2.new.net; dones = old.dones; grants = c.set_number.new.numbers; unbroken = old.unbroken; said = old.said } in
    does_from c.hear_grant.result (λ d w. hears_grant d w c.args.replica c.in_ok-grant.grant true)
    (λ d w. asks d w c.args.replica c.args.request) mid old c.hear_grant.new.self refl
    (λ d w asked.
    let once = c.in_ok-go.ensures.gone d w asked.of in
    let twice = c.in_ok-go-2.ensures.gone d w once.of in (
      record { of = twice.of; unbroken = c.in_ok-go-2.ensures.unbroken old.unbroken.items (c.in_ok-go.ensures.unbroken old.unbroken.items asked.unbroken) },
      asks_part d w (simulated_in old) (network_held c.go-2.new.net) c.args.replica c.args.request c.in_ok-grant.grant (network_held c.go.new.net) c.set_number.new.numbers.items
          (sym (c.in_ok-grant.ensures ∙ ap length c.messages.ensures)) once.net_is twice.net_is c.set_number.ensures,
    ))
    c.hear_grant.ensures
