use Rattle.linear_ints.specs.Descending.{AreZeros}
use Rattle.linear_ints.proofs.descend.zeros.Given as goal

abbrev pub invariant-loop-place : goal.invariant-loop-place
invariant-loop-place l = AreZeros l.place l.values
