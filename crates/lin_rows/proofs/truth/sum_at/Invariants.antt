use Rattle.std.proofs.Common.{◌≡◌, drop, pos}
use Rattle.lin_rows.specs.Rows.{sum_from, point_of}
use Rattle.lin_rows.proofs.truth.sum_at.Given as goal

abbrev pub invariant-loop-term : goal.invariant-loop-term
invariant-loop-term l = sum_from (point_of l.values) (pos 0) l.terms ≡ sum_from (point_of l.values) l.so_far (drop l.term-index l.terms)
