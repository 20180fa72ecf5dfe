use Rattle.std.proofs.Common.{length}
use Rattle.effectors.proofs.applying.+first_outside.Given as goal

abbrev pub decreases-first_outside : goal.decreases-first_outside
decreases-first_outside l = length l.counters.now
