use Rattle.std.proofs.Common.{◌≡◌, IfOk, subst}
use Rattle.spec_core.specs.declared.world.World.{World}
use Rattle.simulate_text.specs.Text.{simulate_text, simulate_status}
use Rattle.simulate_text.proofs.writing.simulate.Goals as goal

pub returns-clause-text : goal.returns-clause-text
returns-clause-text c =
    subst (λ (w : World). IfOk c.simulate_by.result (λ report. report.text.items ≡ simulate_text c.args.spec.now w c.args.replicas c.args.steps.now)) c.new-plain.ensures.world c.simulate_by.ensures.text

pub returns-clause-status : goal.returns-clause-status
returns-clause-status c =
    subst (λ (w : World). IfOk c.simulate_by.result (λ report. report.status ≡ simulate_status c.args.spec.now w c.args.replicas c.args.steps.now)) c.new-plain.ensures.world c.simulate_by.ensures.status
