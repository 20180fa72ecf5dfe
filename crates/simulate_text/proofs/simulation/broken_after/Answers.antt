use Rattle.std.proofs.Common.{refl, ap, ◌∙◌}
use Rattle.simulate_text.specs.Course.{broken_of}
use Rattle.simulate_text.proofs.Unbroken.{broken_by}
use Rattle.simulate_text.proofs.simulation.broken_after.Goals as goal

pub returns-in-Some : goal.returns-in-Some
returns-in-Some g c =
    broken_by c.args.net.now c.args.replica c.args.count c.state_of.result.now c.in-Some.call.now c.invariant_broken_after.result c.is_executed.ensures.executed c.spec.result.now c.world.result.now
    (c.spec.ensures ∙ c.runner-runner.ensures.spec) (c.world.ensures.value ∙ c.runner-runner.ensures.world) c.state_of.ensures.state c.in-Some.ensures c.invariant_broken_after.ensures

pub returns-in-None : goal.returns-in-None
returns-in-None g c at here known =
    let net = c.args.net.now in
    c.broken_of.ensures net.spec net.world (record { spec = refl; world = refl }) ∙ ap (broken_of net.spec net.world) here
