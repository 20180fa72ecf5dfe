use Rattle.std.proofs.Common.{arith}
use Rattle.sat_core.proofs.Seats.{place-in}
use Rattle.sat_core.proofs.trail.Trail.holds.Goals as goal

pub returns : goal.returns
returns c = let e = place-in c.args.self.now c.args.lit in grind (arith, e)
