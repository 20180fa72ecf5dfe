use Rattle.std.proofs.Common.{length}
use Rattle.effectors.proofs.matching.+matching.Given as goal

abbrev pub decreases-matching : goal.decreases-matching
decreases-matching l = length l.sorts.now
