use Rattle.std.proofs.Common.{◌≡◌, ◌++◌, map}
use Rattle.spec_core.specs.World.{below}
use Rattle.spec_core.specs.declared.update.Thing.TheVariants as thing
use Rattle.ground_groups.proofs.things.add_relations.Given as goal

abbrev pub invariant-loop-place : goal.invariant-loop-place
invariant-loop-place l = l.out ≡ l.initial.out ++ map (λ k. thing.Relation k) (below l.place)
