use Rattle.std.proofs.Common.{◌≡◌}
use Rattle.spec_core.specs.World.{below, each_before}
use Rattle.spec_core.proofs.tuples.all_with.Given as goal

abbrev pub invariant-loop-e : goal.invariant-loop-e
invariant-loop-e l = l.out ≡ each_before (below l.e) l.rests
