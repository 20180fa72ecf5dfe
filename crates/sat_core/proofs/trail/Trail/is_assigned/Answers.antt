use Rattle.std.proofs.Common.{arith}
use Rattle.sat_core.proofs.Seats.{is_assigned-signs}
use Rattle.sat_core.proofs.trail.Trail.is_assigned.Goals as goal

pub returns-then-holds : goal.returns-then-holds
returns-then-holds c = let e = is_assigned-signs c.args.self.now c.args.atom in grind (arith, e)

pub returns-else-holds : goal.returns-else-holds
returns-else-holds c = let e = is_assigned-signs c.args.self.now c.args.atom in grind (arith, e)
