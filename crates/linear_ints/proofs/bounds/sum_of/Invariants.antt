use Rattle.std.proofs.Common.{◌≡◌, drop}
use Rattle.std.specs.Prelude.{pos}
use Rattle.lin_rows.specs.Rows.{sum_from}
use Rattle.linear_ints.specs.Listed.{listed}
use Rattle.linear_ints.proofs.bounds.sum_of.Given as goal

abbrev pub invariant-loop-term : goal.invariant-loop-term
invariant-loop-term l = sum_from (listed l.values) (pos 0) l.terms ≡ sum_from (listed l.values) l.sum (drop l.term-index l.terms)
