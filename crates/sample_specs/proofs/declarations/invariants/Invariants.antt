use Rattle.std.proofs.Common.{◌≡◌, ◌+◌, map}
use Rattle.spec_core.specs.World.{below}
use Rattle.sample_specs.specs.Sample.{needs as needs_of}
use Rattle.sample_specs.proofs.declarations.invariants.Given as goal

abbrev pub invariant-loop-i : goal.invariant-loop-i
invariant-loop-i l = l.list ≡ map needs_of (map (λ j. j + 1) (below l.i))
