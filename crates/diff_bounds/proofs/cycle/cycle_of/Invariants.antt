use Rattle.std.proofs.Common.{◌-◌, length}
use Rattle.diff_bounds.specs.Cycles.{IsGoingBack}
use Rattle.diff_bounds.proofs.cycle.cycle_of.Given as goal

abbrev pub invariant-back : goal.invariant-back
invariant-back l = IsGoingBack l.walks.ints l.walks.visits.items (length l.walks.visits.items - 1) l.seen.items l.used l.at

abbrev pub decreases-back : goal.decreases-back
decreases-back l = l.at
