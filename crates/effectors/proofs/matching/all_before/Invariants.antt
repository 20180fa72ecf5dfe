use Rattle.std.proofs.Common.{◌≡◌}
use Rattle.spec_core.specs.World.{below, each_before}
use Rattle.effectors.proofs.matching.all_before.Given as goal

abbrev pub invariant-loop-element : goal.invariant-loop-element
invariant-loop-element l = l.list ≡ each_before (below l.element) l.tuples
