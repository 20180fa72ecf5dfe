use Rattle.std.proofs.Common.{◌+◌, ◌-◌, length}
use Rattle.implicants.proofs.choosing.note_rank.Given as goal

abbrev pub decreases-loop-ranks : goal.decreases-loop-ranks
decreases-loop-ranks l = (l.atom + 1) - length l.ranks.items
