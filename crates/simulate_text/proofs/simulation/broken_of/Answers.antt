use Rattle.std.proofs.Common.{◌<◌, length, arith, ap, ◌∙◌}
use Rattle.spec_core.specs.State.{reads}
use Rattle.spec_core.specs.Meaning.{broken_at}
use Rattle.spec_core.specs.Specification.{Specification}
use Rattle.spec_core.specs.declared.world.World.{World}
use Rattle.simulate_text.proofs.Carrying.{broken_here}
use Rattle.simulate_text.proofs.simulation.broken_of.Goals as goal

pub returns : goal.returns
returns g c = λ d w of.
    let net = c.args.net.now in
    let lt : c.args.replica < length net.replicas = omega (arith, c.if-replica-replica_count.false, c.replica_count.ensures) in
    let is = c.invariant_broken_at.ensures
    ∙ ap (λ (x : Specification). broken_at x c.world.result.now (reads c.state_of.result.now)) (c.spec.ensures ∙ c.runner-runner.ensures.spec)
    ∙ ap (λ (x : World). broken_at net.spec x (reads c.state_of.result.now)) (c.world.ensures.value ∙ c.runner-runner.ensures.world) in
    broken_here d w net c.args.replica c.state_of.result.now c.invariant_broken_at.result lt of c.state_of.ensures.state is
