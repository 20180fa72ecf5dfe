use Rattle.std.proofs.Common.{ap}
use Rattle.sat_core.specs.Places.{some_place}
use Rattle.sat_core.proofs.Seats.{decision-some}
use Rattle.sat_core.proofs.trail.Trail.decides.Goals as goal

pub returns : goal.returns
returns c =
    let d = ap some_place (c.self.invariant.decisions_places) in
    let v = c.as_slice.ensures.value in
    let e = decision-some c.args.self.now in
    let i = c.is_some.ensures in
    cc
