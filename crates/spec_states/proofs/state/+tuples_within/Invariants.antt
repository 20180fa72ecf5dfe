use Rattle.std.proofs.Common.{length}
use Rattle.spec_states.proofs.state.+tuples_within.Given as goal

abbrev pub decreases-tuples_within : goal.decreases-tuples_within
decreases-tuples_within l = length l.lists.now
