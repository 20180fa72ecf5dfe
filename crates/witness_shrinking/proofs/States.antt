-- A state that fits has a list for each relation and each counter.
use Rattle.std.proofs.Common.{◌≡◌, ℕ, suc, ◌<◌, ℤ, true, List, [], ◌∷◌, length, refl, ap, subst}
use Rattle.std.specs.List.{list_all}
use Rattle.std.proofs.lemmas.Bool.{and_parts}
use Rattle.spec_core.specs.declared.world.World.{World}
use Rattle.spec_core.specs.declared.spec.Relation.{Relation}
use Rattle.spec_core.specs.declared.spec.Counter.{Counter}
use Rattle.spec_core.specs.Specification.{Specification}
use Rattle.spec_core.specs.State.{Listing}
use Rattle.spec_core.specs.Fits.{fits_places, lists_fit, values_fit, is_state}

values_many : (w : World) (cs : List Counter) (ls : List (List (List ℕ × ℤ))) → values_fit w cs ls ≡ true → length cs ≡ length ls
values_many w [] [] h = refl
values_many w [] (l ∷ ls) h = absurd cc
values_many w (c ∷ cs) [] h = absurd cc
values_many w (c ∷ cs) (l ∷ ls) h = ap (λ n. suc n) (values_many w cs ls (and_parts (list_all (λ (e : List ℕ × ℤ). fits_places w c.keys e.0) l) (values_fit w cs ls) h).1)

pub counters_many : (d : Specification) (w : World) (s : Listing) → is_state d w s ≡ true → length d.counters ≡ length s.counters
counters_many d w s h = values_many w d.counters s.counters (and_parts (lists_fit w d.relations s.relations) (values_fit w d.counters s.counters) h).1

lists_many : (w : World) (rs : List Relation) (ls : List (List (List ℕ))) → lists_fit w rs ls ≡ true → length rs ≡ length ls
lists_many w [] [] h = refl
lists_many w [] (l ∷ ls) h = absurd cc
lists_many w (r ∷ rs) [] h = absurd cc
lists_many w (r ∷ rs) (l ∷ ls) h = ap (λ n. suc n) (lists_many w rs ls (and_parts (list_all (λ t. fits_places w r.places t) l) (lists_fit w rs ls) h).1)

pub relations_many : (d : Specification) (w : World) (s : Listing) → is_state d w s ≡ true → length d.relations ≡ length s.relations
relations_many d w s h = lists_many w d.relations s.relations (and_parts (lists_fit w d.relations s.relations) (values_fit w d.counters s.counters) h).0

pub counter_within : (d : Specification) (w : World) (s : Listing) (k : ℕ) → is_state d w s ≡ true → k < length d.counters → k < length s.counters
counter_within d w s k h below = subst (λ n. k < n) (values_many w d.counters s.counters (and_parts (lists_fit w d.relations s.relations) (values_fit w d.counters s.counters) h).1) below
