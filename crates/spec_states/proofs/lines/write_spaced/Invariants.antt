use Rattle.std.proofs.Common.{◌≡◌, ◌++◌, take}
use Rattle.spec_states.specs.StateText.{spaced}
use Rattle.spec_states.proofs.lines.write_spaced.Given as goal

abbrev pub invariant-loop-element : goal.invariant-loop-element
invariant-loop-element l = l.out.items ≡ l.initial.out.items ++ spaced (take l.element-index l.elements)
