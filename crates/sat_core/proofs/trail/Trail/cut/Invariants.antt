use Rattle.std.proofs.Common.{◌≡◌, length}
use Rattle.sat_core.specs.Trails.{before_last}
use Rattle.sat_core.proofs.trail.Trail.cut.Given as goal

abbrev pub invariant-loop-entry : goal.invariant-loop-entry
invariant-loop-entry l = before_last l.self ≡ before_last l.fn.self

abbrev pub decreases-loop-entry : goal.decreases-loop-entry
decreases-loop-entry l = length l.self
