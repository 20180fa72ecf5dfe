use Rattle.std.proofs.Common.{◌≡◌, ◌++◌, map}
use Rattle.std.specs.List.{filter}
use Rattle.spec_core.specs.World.{below}
use Rattle.spec_core.specs.declared.update.Thing.TheVariants as thing
use Rattle.obligation_list.specs.declared.obligation.Obligation.TheVariants.{Commute}
use Rattle.obligation_list.specs.Obligations.{either_writes}
use Rattle.obligation_list.proofs.listing.add_on_relations.Given as goal

abbrev pub invariant-loop-k : goal.invariant-loop-k
invariant-loop-k l = l.list ≡ l.fn.list ++ map (λ x. Commute l.first l.second x) (filter (either_writes l.spec l.first l.second) (map (λ k. thing.Relation k) (below l.k)))
