use Rattle.std.proofs.Common.{refl, sym, ap}
use Rattle.token_protocol.specs.Network.{Network}
use Rattle.simulate_text.specs.Course.{with_net}
use Rattle.simulate_text.specs.Reached.{simulated_in}
use Rattle.simulate_text.proofs.simulation.Simulation.void.Goals as goal

pub returns : goal.returns
returns g c = λ d w asked.
    let told = c.in_ok-tell_all.ensures.told d w asked.of in
    record {
      said_is = sym c.in_ok-push.ensures.items;
      stop_is = refl;
      after_is = ap (λ (n : Network). with_net (simulated_in c.args.self.now) n) told.1;
      asked = record { of = told.0; unbroken = c.in_ok-tell_all.ensures.unbroken c.args.self.now.unbroken.items asked.unbroken };
    }
