-- Where a state reads as the initial one.
use Rattle.std.specs.Prelude.{ℕ, Bool, ◌&&◌, List, length, get_or}
use Rattle.std.specs.List.{list_all}
use Rattle.spec_core.specs.declared.world.World.{World}
use Rattle.spec_core.specs.declared.update.Thing.{Thing}
use Rattle.spec_core.specs.declared.update.Thing.TheVariants as thing
use Rattle.spec_core.specs.Specification.{Specification, no_relation, no_counter, relation_places, counter_keys}
use Rattle.spec_core.specs.World.{tuples}
use Rattle.spec_core.specs.State.{Reads}
use Rattle.spec_core.specs.Truth.{int_eq}
use Rattle.spec_core.specs.Choices.{all_below}
use Rattle.obligation_list.specs.Breaking.{bool_eq}

-- a thing has its stated value at a tuple or key
abbrev pub starts_at : Specification → Thing → List ℕ → Reads → Bool
starts_at d (thing.Relation k) t r = bool_eq (r.has k t) (get_or d.relations k no_relation).initial
starts_at d (thing.Counter k) t r = int_eq (r.count k t) (get_or d.counters k no_counter).initial

-- it has that value at all of them
abbrev pub starts_everywhere : Specification → World → Thing → List ℕ → Reads → Bool
starts_everywhere d w x sorts r = list_all (λ t. starts_at d x t r) (tuples w sorts)

-- all things do
abbrev pub starts : Specification → World → Reads → Bool
starts d w r =
    all_below (length d.relations) (λ k. starts_everywhere d w (thing.Relation k)
    (relation_places d k) r)
    && all_below (length d.counters) (λ k. starts_everywhere d w (thing.Counter k)
    (counter_keys d k) r)
