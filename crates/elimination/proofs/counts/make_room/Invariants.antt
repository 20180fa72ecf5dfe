use Rattle.std.proofs.Common.{◌+◌, ◌-◌, length}
use Rattle.elimination.proofs.counts.make_room.Given as goal

abbrev pub decreases-loop-counts : goal.decreases-loop-counts
decreases-loop-counts l = (l.place + 1) - length l.counts.items
