use Rattle.std.proofs.Common.{◌≡◌, true}
use Rattle.spec_core.specs.declared.update.Thing.TheVariants as thing
use Rattle.spec_core.specs.Specification.{relation_places}
use Rattle.spec_core.specs.State.{reads}
use Rattle.spec_core.specs.Choices.{all_below}
use Rattle.obligation_list.specs.Starting.{starts_everywhere}
use Rattle.obligation_list.proofs.initial.relations_start.Given as goal

abbrev pub invariant-loop-k : goal.invariant-loop-k
invariant-loop-k l = all_below l.k (λ k. starts_everywhere l.spec l.world (thing.Relation k) (relation_places l.spec k) (reads l.state)) ≡ true
