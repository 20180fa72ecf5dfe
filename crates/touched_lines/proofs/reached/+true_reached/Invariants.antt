use Rattle.std.proofs.Common.{length}
use Rattle.touched_lines.proofs.reached.+true_reached.Given as goal

abbrev pub decreases-true_reached : goal.decreases-true_reached
decreases-true_reached g l = length l.updates.now
