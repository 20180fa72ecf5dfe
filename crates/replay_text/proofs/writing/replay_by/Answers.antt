use Rattle.std.proofs.Common.{ap, ◌∙◌, ◌++◌, List, ℕ}
use Rattle.replay_text.specs.Text.{replay_text}
use Rattle.replay_text.proofs.writing.replay_by.Goals as goal

pub returns-clause-text : goal.returns-clause-text
returns-clause-text g c =
    c.in_ok-status.ensures.text
    ∙ ap (λ (t : List ℕ). t ++ replay_text c.args.spec.now c.args.replay.now.world c.args.replicas c.args.steps.now) c.new-text.ensures.items
