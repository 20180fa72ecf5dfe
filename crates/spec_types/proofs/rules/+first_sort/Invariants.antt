use Rattle.std.proofs.Common.{length}
use Rattle.spec_types.proofs.rules.+first_sort.Given as goal

abbrev pub decreases-first_sort : goal.decreases-first_sort
decreases-first_sort l = length l.sorts.now
