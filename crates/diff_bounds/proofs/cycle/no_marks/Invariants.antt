use Rattle.std.proofs.Common.{◌≡◌, replicate, None}
use Rattle.diff_bounds.proofs.cycle.no_marks.Given as goal

abbrev pub invariant-loop-place : goal.invariant-loop-place
invariant-loop-place l = l.marks.items ≡ replicate l._place None
