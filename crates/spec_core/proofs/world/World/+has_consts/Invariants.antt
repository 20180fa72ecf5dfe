use Rattle.std.proofs.Common.{length}
use Rattle.spec_core.proofs.world.World.+has_consts.Given as goal

abbrev pub decreases-has_consts : goal.decreases-has_consts
decreases-has_consts l = length l.consts.now
