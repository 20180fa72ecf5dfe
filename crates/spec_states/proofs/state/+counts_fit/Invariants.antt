use Rattle.std.proofs.Common.{length}
use Rattle.spec_states.proofs.state.+counts_fit.Given as goal

abbrev pub decreases-counts_fit : goal.decreases-counts_fit
decreases-counts_fit l = length l.counters.now
