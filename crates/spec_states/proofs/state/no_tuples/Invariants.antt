use Rattle.std.proofs.Common.{◌≡◌, [], replicate}
use Rattle.spec_states.proofs.state.no_tuples.Given as goal

abbrev pub invariant-loop-i : goal.invariant-loop-i
invariant-loop-i l = l.lists.items ≡ replicate l._i []
