use Rattle.std.proofs.Common.{◌≡◌, ◌++◌, drop}
use Rattle.spec_states.specs.StateText.{spaced}
use Rattle.replay_text.proofs.lines.push_spaced.Given as goal

abbrev pub invariant-loop-element : goal.invariant-loop-element
invariant-loop-element l = l.fn.text.items ++ spaced l.elements ≡ l.text.items ++ spaced (drop l.element-index l.elements)
