use Rattle.std.proofs.Common.{◌≡◌, [], ◌∷◌}
use Rattle.std.specs.List.{flat_map}
use Rattle.spec_core.specs.World.{below}
use Rattle.sample_specs.specs.Sample.{adding as adding_of}
use Rattle.sample_specs.specs.Sample.{deleting as deleting_of}
use Rattle.sample_specs.proofs.operations.operations.Given as goal

abbrev pub invariant-loop-i : goal.invariant-loop-i
invariant-loop-i l = l.list ≡ flat_map (λ j. adding_of j ∷ deleting_of l.n j ∷ []) (below l.i)
