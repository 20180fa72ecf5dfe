use Rattle.std.proofs.Common.{◌≡◌, IfOk, ◌∙◌, subst}
use Rattle.spec_core.specs.declared.world.World.{World}
use Rattle.replay_text.specs.Text.{replay_text, replay_status}
use Rattle.replay_text.proofs.writing.replay.Goals as goal

pub returns-clause-text : goal.returns-clause-text
returns-clause-text c =
    subst (λ (w : World). IfOk c.replay_by.result (λ report. report.text.items ≡ replay_text c.args.spec.now w c.args.replicas c.args.steps.now)) (c.in_ok-replay.ensures.world ∙ c.new-runner.ensures.world) c.replay_by.ensures.text

pub returns-clause-status : goal.returns-clause-status
returns-clause-status c =
    subst (λ (w : World). IfOk c.replay_by.result (λ report. report.status ≡ replay_status c.args.spec.now w c.args.replicas c.args.steps.now)) (c.in_ok-replay.ensures.world ∙ c.new-runner.ensures.world) c.replay_by.ensures.status
