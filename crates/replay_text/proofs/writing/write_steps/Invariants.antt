use Rattle.replay_text.proofs.Going.{Between}
use Rattle.replay_text.proofs.writing.write_steps.Given as goal

abbrev pub invariant-loop-number : goal.invariant-loop-number
invariant-loop-number g l =
    let first = l.fn.replay in
    Between l.spec first.world first.held l.steps l.fn.text.items l.text.items l.number l.replay
