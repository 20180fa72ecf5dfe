use Rattle.std.proofs.Common.{sym, subst}
use Rattle.simulate_text.specs.Unbroken.{StaysUnbroken}
use Rattle.simulate_text.proofs.Unbroken.{stays_after}
use Rattle.simulate_text.proofs.simulation.go.Goals as goal

pub returns-in-Ok-clause-unbroken : goal.returns-in-Ok-clause-unbroken
returns-in-Ok-clause-unbroken g c =
    stays_after c.args.net.now c.step.new.self c.args.step.now c.is_executed.ensures.executed c.in-Ok.ensures.counted.ok c.in-Ok.ensures.counted.spec c.in-Ok.ensures.counted.world

pub returns-in_ok-refusal_of-in-Err-clause-unbroken : goal.returns-in_ok-refusal_of-in-Err-clause-unbroken
returns-in_ok-refusal_of-in-Err-clause-unbroken g c =
    subst (StaysUnbroken c.args.net.now) (sym c.in-Err.ensures.counted.err) (λ counts known. known)
