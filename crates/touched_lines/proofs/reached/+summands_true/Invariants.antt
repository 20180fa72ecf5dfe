use Rattle.std.proofs.Common.{length}
use Rattle.touched_lines.proofs.reached.+summands_true.Given as goal

abbrev pub decreases-summands_true : goal.decreases-summands_true
decreases-summands_true g l = length l.summands.now
