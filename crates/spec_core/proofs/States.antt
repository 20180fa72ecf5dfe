-- What a state lists: its members pass what all pass, its values are in range, and those of a state that fits hold elements of their sorts.
use Rattle.std.proofs.Common.{◌≡◌, ℕ, zero, suc, ℤ, Bool, true, false, cond, ◌&&◌, ◌||◌, List, [], ◌∷◌, get_or, refl, sym, ◌∙◌, ap, arith}
use Rattle.std.proofs.lemmas.Slice.Eq.{bytes_eq-Decides}
use Rattle.std.specs.Str.{bytes_eq}
use Rattle.std.specs.List.{list_all}
use Rattle.spec_core.specs.declared.spec.Relation.{Relation}
use Rattle.spec_core.specs.declared.spec.Counter.{Counter}
use Rattle.spec_core.specs.declared.world.World.{World}
use Rattle.spec_core.specs.Specification.{no_relation, no_counter}
use Rattle.spec_core.specs.State.{is_in, count_in, listed_keys}
use Rattle.spec_core.specs.World.{tuples}
use Rattle.spec_core.specs.Fits.{fits_places, lists_fit, values_fit, in_state_range}
use Rattle.spec_core.proofs.Choosing.{all_tuples}
use Rattle.std.proofs.lemmas.Bool.{and_parts, and_from}

-- a test of each tuple, by what is listed
pub list_all-from_is_in : (p : List ℕ → Bool) (ts : List (List ℕ)) → ((q : List ℕ) → is_in q ts ≡ true → p q ≡ true) → list_all p ts ≡ true
list_all-from_is_in p [] h = refl
list_all-from_is_in p (t ∷ ts) h = and_from (p t) (list_all p ts) (h t (or_left (bytes_eq t t) (is_in t ts) ((bytes_eq-Decides t t).1 refl))) (list_all-from_is_in p ts (λ q k. h q (or_right (bytes_eq q t) (is_in q ts) k)))
  where
    or_left : (a b : Bool) → a ≡ true → (a || b) ≡ true
    or_left a b h = grind arith

    or_right : (a b : Bool) → b ≡ true → (a || b) ≡ true
    or_right a b h = grind arith

pub list_all-is_in : (p : List ℕ → Bool) (ts : List (List ℕ)) (q : List ℕ) → list_all p ts ≡ true → is_in q ts ≡ true → p q ≡ true
list_all-is_in p [] q h k = absurd cc
list_all-is_in p (t ∷ ts) q h k = at (bytes_eq q t) refl k (λ m. list_all-is_in p ts q (and_parts (p t) (list_all p ts) h).1 m)
  where
    at : (b : Bool) → bytes_eq q t ≡ b → (b || is_in q ts) ≡ true → (is_in q ts ≡ true → p q ≡ true) → p q ≡ true
    at true e k next = ap p ((bytes_eq-Decides q t).0 e) ∙ (and_parts (p t) (list_all p ts) h).0
    at false e k next = next k

pub count_in_range : (es : List (List ℕ × ℤ)) (q : List ℕ) → list_all (λ (e : List ℕ × ℤ). in_state_range e.1) es ≡ true → in_state_range (count_in es q) ≡ true
count_in_range [] q h = refl
count_in_range (e ∷ es) q h = let a = and_parts _ _ h in at (bytes_eq q e.0) a.0 (count_in_range es q a.1)
  where
    at : (b : Bool) → in_state_range e.1 ≡ true → in_state_range (count_in es q) ≡ true → in_state_range (cond b e.1 (count_in es q)) ≡ true
    at true x y = x
    at false x y = y

pub by_key : (w : World) (places : List ℕ) (es : List (List ℕ × ℤ)) → list_all (λ (e : List ℕ × ℤ). fits_places w places e.0) es ≡ list_all (fits_places w places) (listed_keys es)
by_key w places [] = refl
by_key w places (e ∷ es) = ap (λ b. fits_places w places e.0 && b) (by_key w places es)

pub lists_fit-at : (w : World) (rs : List Relation) (ls : List (List (List ℕ))) (k : ℕ) (q : List ℕ) → lists_fit w rs ls ≡ true → is_in q (get_or ls k []) ≡ true → fits_places w (get_or rs k no_relation).places q ≡ true
lists_fit-at w [] [] k q h p = absurd cc
lists_fit-at w [] (l ∷ ls) k q h p = absurd cc
lists_fit-at w (r ∷ rs) [] k q h p = absurd cc
lists_fit-at w (r ∷ rs) (l ∷ ls) zero q h p = list_all-is_in (λ tuple. fits_places w r.places tuple) l q (and_parts _ _ h).0 p
lists_fit-at w (r ∷ rs) (l ∷ ls) (suc k) q h p = lists_fit-at w rs ls k q (and_parts _ _ h).1 p

pub values_fit-at : (w : World) (cs : List Counter) (ls : List (List (List ℕ × ℤ))) (k : ℕ) (q : List ℕ) → values_fit w cs ls ≡ true → is_in q (listed_keys (get_or ls k [])) ≡ true → fits_places w (get_or cs k no_counter).keys q ≡ true
values_fit-at w [] [] k q h p = absurd cc
values_fit-at w [] (l ∷ ls) k q h p = absurd cc
values_fit-at w (c ∷ cs) [] k q h p = absurd cc
values_fit-at w (c ∷ cs) (l ∷ ls) zero q h p = list_all-is_in (fits_places w c.keys) (listed_keys l) q (sym (by_key w c.keys l) ∙ (and_parts _ _ h).0) p
values_fit-at w (c ∷ cs) (l ∷ ls) (suc k) q h p = values_fit-at w cs ls k q (and_parts _ _ h).1 p

pub tuples_fit : (w : World) (ss : List ℕ) (q : List ℕ) → is_in q (tuples w ss) ≡ true → fits_places w ss q ≡ true
tuples_fit w ss q h = list_all-is_in (fits_places w ss) (tuples w ss) q (all_tuples w ss (fits_places w ss) (λ t k. k)) h
