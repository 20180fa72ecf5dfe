use Rattle.std.proofs.Common.{length}
use Rattle.spec_states.proofs.state.+write_counters.Given as goal

abbrev pub decreases-write_counters : goal.decreases-write_counters
decreases-write_counters l = length l.counters.now
