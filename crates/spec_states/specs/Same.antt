-- When two listed states read the same, as the code tests it; for proofs alone.
use Rattle.std.specs.Prelude.{ℕ, ℤ, Bool, true, ◌&&◌, List, [], ◌∷◌}
use Rattle.std.specs.List.{list_all}
use Rattle.spec_core.specs.State.{Listing, is_in, count_in, listed_keys}
use Rattle.spec_core.specs.Truth.{int_eq}

-- each tuple that these list, those list too
abbrev pub lists_within : List (List (List ℕ)) → List (List (List ℕ)) → Bool
lists_within [] os = true
lists_within (l ∷ ls) [] = list_all (λ t. is_in t []) l && lists_within ls []
lists_within (l ∷ ls) (o ∷ os) = list_all (λ t. is_in t o) l && lists_within ls os

-- both have one value at each key of the first
abbrev pub agrees_at_keys : List (List ℕ × ℤ) → List (List ℕ × ℤ) → Bool
agrees_at_keys l o = list_all (λ q. int_eq (count_in l q) (count_in o q)) (listed_keys l)

-- all counters have one value at each key of the first
abbrev pub values_agree : List (List (List ℕ × ℤ)) → List (List (List ℕ × ℤ)) → Bool
values_agree [] os = true
values_agree (l ∷ ls) [] = agrees_at_keys l [] && values_agree ls []
values_agree (l ∷ ls) (o ∷ os) = agrees_at_keys l o && values_agree ls os

-- what either lists, both read
abbrev pub same_listing : Listing → Listing → Bool
same_listing s t =
    lists_within s.relations t.relations && lists_within t.relations s.relations
    && values_agree s.counters t.counters && values_agree t.counters s.counters
