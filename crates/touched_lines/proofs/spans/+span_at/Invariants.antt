use Rattle.std.proofs.Common.{length}
use Rattle.touched_lines.proofs.spans.+span_at.Given as goal

abbrev pub decreases-span_at : goal.decreases-span_at
decreases-span_at l = length l.elems.now
