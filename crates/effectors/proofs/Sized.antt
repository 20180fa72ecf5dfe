-- A state that fits has a list for each relation and each counter.
use Rattle.std.proofs.Common.{◌≡◌, ℕ, ℤ, true, List, [], ◌∷◌, length, refl, arith}
use Rattle.std.proofs.lemmas.Bool.{and_parts}
use Rattle.spec_core.specs.declared.world.World.{World}
use Rattle.spec_core.specs.declared.spec.Relation.{Relation}
use Rattle.spec_core.specs.declared.spec.Counter.{Counter}
use Rattle.spec_core.specs.Specification.{Specification}
use Rattle.spec_core.specs.State.{Listing}
use Rattle.spec_core.specs.Fits.{lists_fit, values_fit, is_state}

lists_sized : (w : World) (rs : List Relation) (ls : List (List (List ℕ))) → lists_fit w rs ls ≡ true → length ls ≡ length rs
lists_sized w [] [] h = refl
lists_sized w [] (l ∷ ls) h = absurd cc
lists_sized w (r ∷ rs) [] h = absurd cc
lists_sized w (r ∷ rs) (l ∷ ls) h = let e = lists_sized w rs ls (and_parts _ _ h).1 in omega arith

values_sized : (w : World) (cs : List Counter) (ls : List (List (List ℕ × ℤ))) → values_fit w cs ls ≡ true → length ls ≡ length cs
values_sized w [] [] h = refl
values_sized w [] (l ∷ ls) h = absurd cc
values_sized w (c ∷ cs) [] h = absurd cc
values_sized w (c ∷ cs) (l ∷ ls) h = let e = values_sized w cs ls (and_parts _ _ h).1 in omega arith

pub relations_sized : (d : Specification) (w : World) (s : Listing) → is_state d w s ≡ true → length s.relations ≡ length d.relations
relations_sized d w s h = lists_sized w d.relations s.relations (and_parts _ _ h).0

pub counters_sized : (d : Specification) (w : World) (s : Listing) → is_state d w s ≡ true → length s.counters ≡ length d.counters
counters_sized d w s h = values_sized w d.counters s.counters (and_parts _ _ h).1
