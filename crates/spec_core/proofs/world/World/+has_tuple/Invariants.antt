use Rattle.std.proofs.Common.{length}
use Rattle.spec_core.proofs.world.World.+has_tuple.Given as goal

abbrev pub decreases-has_tuple : goal.decreases-has_tuple
decreases-has_tuple l = length l.sorts.now
