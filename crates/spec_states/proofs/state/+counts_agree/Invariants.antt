use Rattle.std.proofs.Common.{length}
use Rattle.spec_states.proofs.state.+counts_agree.Given as goal

abbrev pub decreases-counts_agree : goal.decreases-counts_agree
decreases-counts_agree l = length l.lists.now
