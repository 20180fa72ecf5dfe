-- Which tuples and keys some updates reach, and a state in which only these are read from another one.
use Rattle.std.specs.Prelude.{ℕ, ℤ, Bool, true, cond, ◌&&◌, ◌==◌, List, [], ◌∷◌}
use Rattle.std.specs.List.{list_all}
use Rattle.spec_core.specs.declared.world.World.{World}
use Rattle.spec_core.specs.declared.update.Thing.{Thing}
use Rattle.spec_core.specs.declared.update.Thing.TheVariants as thing
use Rattle.spec_core.specs.declared.update.Spot.{Spot}
use Rattle.spec_core.specs.declared.update.Spot.TheVariants.{Every, One}
use Rattle.spec_core.specs.UpdateLine.{UpdateLine}
use Rattle.spec_core.specs.Specification.{Specification, places_of}
use Rattle.spec_core.specs.World.{size_of, below, each_before}
use Rattle.spec_core.specs.State.{Reads, is_in}
use Rattle.spec_core.specs.Truth.{elem_of}
use Rattle.spec_core.specs.Fits.{in_state_range}

-- the lists of elements of these sorts that the spots match, rising
abbrev pub matching : World → List ℤ → List ℕ → List Spot → List (List ℕ)
matching w args [] xs = [] ∷ []
matching w args (s ∷ ss) [] = []
matching w args (s ∷ ss) (Every ∷ xs) = each_before (below (size_of w s)) (matching w args ss xs)
matching w args (s ∷ ss) (One e ∷ xs) =
    each_before (elem_of w args [] e ∷ []) (matching w args ss xs)

-- the tuples or keys that an update reaches
abbrev pub reached : Specification → World → List ℤ → UpdateLine → List (List ℕ)
reached d w args u = matching w args (places_of d u.thing) u.at

-- readings, but those of a relation at these tuples from other ones
abbrev pub with_tuples : ℕ → List (List ℕ) → Reads → Reads → Reads
with_tuples k ts n r =
    record { has = λ j q. cond ((j == k) && is_in q ts) (n.has j q) (r.has j q); count = r.count }

-- readings, but those of a counter at these keys from other ones
abbrev pub with_keys : ℕ → List (List ℕ) → Reads → Reads → Reads
with_keys k ts n r =
    record { has = r.has; count = λ j q. cond ((j == k) && is_in q ts) (n.count j q) (r.count j q) }

-- readings, but those of a thing at these tuples or keys from other ones
abbrev pub with_thing : Thing → List (List ℕ) → Reads → Reads → Reads
with_thing (thing.Relation k) ts n r = with_tuples k ts n r
with_thing (thing.Counter k) ts n r = with_keys k ts n r

-- readings, but those that the updates reach from other ones
abbrev pub with_updates : Specification → World → List ℤ → List UpdateLine → Reads → Reads → Reads
with_updates d w args [] n r = r
with_updates d w args (u ∷ us) n r =
    with_updates d w args us n (with_thing u.thing (reached d w args u) n r)

-- the values of a thing at these keys are in the range of a state
abbrev pub thing_in_range : Thing → List (List ℕ) → Reads → Bool
thing_in_range (thing.Relation k) ts n = true
thing_in_range (thing.Counter k) ts n = list_all (λ t. in_state_range (n.count k t)) ts

-- the values that the updates reach are in the range of a state
abbrev pub updates_in_range : Specification → World → List ℤ → List UpdateLine → Reads → Bool
updates_in_range d w args us n = list_all (λ u. thing_in_range u.thing (reached d w args u) n) us
