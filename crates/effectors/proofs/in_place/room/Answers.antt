use Rattle.std.proofs.Common.{subst}
use Rattle.effectors.specs.Spare.{IsSpare}
use Rattle.effectors.proofs.in_place.room.Goals as goal

pub returns-in-Some : goal.returns-in-Some
returns-in-Some c = subst (IsSpare c.args.spec.now c.args.world.now c.args.state.now) c.in-Some.is c.requires.spare
