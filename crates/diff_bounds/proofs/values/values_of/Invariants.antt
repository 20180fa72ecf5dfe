use Rattle.diff_bounds.specs.Values.{AreFirstValues}
use Rattle.diff_bounds.proofs.values.values_of.Given as goal

abbrev pub invariant-loop-place : goal.invariant-loop-place
invariant-loop-place l = AreFirstValues l.walks.ints l.place l.walks.visits.items l.walks.latest.items l.values
