use Rattle.std.proofs.Common.{◌≡◌, inl, inr, ℕ, zero, suc, ℤ, pos, Bool, true, false, cond, ◌&&◌, ◌||◌, List, [], ◌∷◌, get_or, refl, sym, ◌∙◌, ap, arith}
use Rattle.std.specs.Str.{bytes_eq}
use Rattle.std.specs.List.{list_all}
use Rattle.std.proofs.lemmas.Int.{ints}
use Rattle.spec_core.specs.State.{Listing, Reads, reads, is_in, count_in, listed_keys}
use Rattle.spec_core.specs.Truth.{int_eq}
use Rattle.spec_states.specs.Same.{lists_within, agrees_at_keys, values_agree, same_listing}
use Rattle.std.proofs.lemmas.Bool.{and_parts, and_from, cases_Bool}
use Rattle.spec_core.proofs.States.{list_all-from_is_in, list_all-is_in}

int_eq_same : (a b : ℤ) → int_eq a b ≡ true → a ≡ b
int_eq_same a b h = grind (arith, ints)

int_eq_refl : (a b : ℤ) → a ≡ b → int_eq a b ≡ true
int_eq_refl a b h = grind (arith, ints)

-- ---- tuples

within : (ls os : List (List (List ℕ))) → lists_within ls os ≡ true → (k : ℕ) (q : List ℕ) → is_in q (get_or ls k []) ≡ true → is_in q (get_or os k []) ≡ true
within [] os h k q m = absurd cc
within (l ∷ ls) [] h zero q m = list_all-is_in (λ t. is_in t []) l q (and_parts (list_all (λ t. is_in t []) l) (lists_within ls []) h).0 m
within (l ∷ ls) [] h (suc k) q m = within ls [] (and_parts (list_all (λ t. is_in t []) l) (lists_within ls []) h).1 k q m
within (l ∷ ls) (o ∷ os) h zero q m = list_all-is_in (λ t. is_in t o) l q (and_parts (list_all (λ t. is_in t o) l) (lists_within ls os) h).0 m
within (l ∷ ls) (o ∷ os) h (suc k) q m = within ls os (and_parts (list_all (λ t. is_in t o) l) (lists_within ls os) h).1 k q m

from_within : (ls os : List (List (List ℕ))) → ((k : ℕ) (q : List ℕ) → is_in q (get_or ls k []) ≡ true → is_in q (get_or os k []) ≡ true) → lists_within ls os ≡ true
from_within [] os h = refl
from_within (l ∷ ls) [] h = and_from _ _ (list_all-from_is_in (λ t. is_in t []) l (h zero)) (from_within ls [] (λ k q m. h (suc k) q m))
from_within (l ∷ ls) (o ∷ os) h = and_from _ _ (list_all-from_is_in (λ t. is_in t o) l (h zero)) (from_within ls os (λ k q m. h (suc k) q m))

iff : (a b : Bool) → (a ≡ true → b ≡ true) → (b ≡ true → a ≡ true) → a ≡ b
iff true b h k = sym (h refl)
iff false true h k = k refl
iff false false h k = refl

-- ---- values

pub unlisted : (es : List (List ℕ × ℤ)) (q : List ℕ) → is_in q (listed_keys es) ≡ false → count_in es q ≡ pos 0
unlisted [] q h = refl
unlisted (e ∷ es) q h = at (bytes_eq q e.0) h (unlisted es q)
  where
    at : (b : Bool) → (b || is_in q (listed_keys es)) ≡ false → (is_in q (listed_keys es) ≡ false → count_in es q ≡ pos 0) → cond b e.1 (count_in es q) ≡ pos 0
    at true h k = absurd cc
    at false h k = k h

one_value : (l o : List (List ℕ × ℤ)) (q : List ℕ) → agrees_at_keys l o ≡ true → agrees_at_keys o l ≡ true → count_in l q ≡ count_in o q
one_value l o q h k = elim (cases_Bool (is_in q (listed_keys l))) [
  | inl m ↦ int_eq_same (count_in l q) (count_in o q) (list_all-is_in (λ q. int_eq (count_in l q) (count_in o q)) (listed_keys l) q h m)
  | inr n ↦ elim (cases_Bool (is_in q (listed_keys o))) [
    | inl m ↦ sym (int_eq_same (count_in o q) (count_in l q) (list_all-is_in (λ q. int_eq (count_in o q) (count_in l q)) (listed_keys o) q k m))
    | inr p ↦ unlisted l q n ∙ sym (unlisted o q p)
  ]
]

one_value_at : (ls os : List (List (List ℕ × ℤ))) → values_agree ls os ≡ true → values_agree os ls ≡ true → (k : ℕ) (q : List ℕ) → count_in (get_or ls k []) q ≡ count_in (get_or os k []) q
one_value_at [] [] h g k q = refl
one_value_at [] (o ∷ os) h g zero q = one_value [] o q refl (and_parts (agrees_at_keys o []) (values_agree os []) g).0
one_value_at [] (o ∷ os) h g (suc k) q = one_value_at [] os refl (and_parts (agrees_at_keys o []) (values_agree os []) g).1 k q
one_value_at (l ∷ ls) [] h g zero q = one_value l [] q (and_parts (agrees_at_keys l []) (values_agree ls []) h).0 refl
one_value_at (l ∷ ls) [] h g (suc k) q = one_value_at ls [] (and_parts (agrees_at_keys l []) (values_agree ls []) h).1 refl k q
one_value_at (l ∷ ls) (o ∷ os) h g zero q = one_value l o q (and_parts (agrees_at_keys l o) (values_agree ls os) h).0 (and_parts (agrees_at_keys o l) (values_agree os ls) g).0
one_value_at (l ∷ ls) (o ∷ os) h g (suc k) q = one_value_at ls os (and_parts (agrees_at_keys l o) (values_agree ls os) h).1 (and_parts (agrees_at_keys o l) (values_agree os ls) g).1 k q

agree_at : (l o : List (List ℕ × ℤ)) → ((q : List ℕ) → count_in l q ≡ count_in o q) → agrees_at_keys l o ≡ true
agree_at l o h = list_all-from_is_in (λ q. int_eq (count_in l q) (count_in o q)) (listed_keys l) (λ q m. int_eq_refl (count_in l q) (count_in o q) (h q))

from_values : (ls os : List (List (List ℕ × ℤ))) → ((k : ℕ) (q : List ℕ) → count_in (get_or ls k []) q ≡ count_in (get_or os k []) q) → values_agree ls os ≡ true
from_values [] os h = refl
from_values (l ∷ ls) [] h = and_from _ _ (agree_at l [] (h zero)) (from_values ls [] (λ k q. h (suc k) q))
from_values (l ∷ ls) (o ∷ os) h = and_from _ _ (agree_at l o (h zero)) (from_values ls os (λ k q. h (suc k) q))

-- ---- whole states

module _ (s t : Listing) where
  pub same_reads : same_listing s t ≡ true → reads s ≡ reads t
  same_reads h =
      let a = and_parts (lists_within s.relations t.relations && lists_within t.relations s.relations && values_agree s.counters t.counters) (values_agree t.counters s.counters) h in
      let b = and_parts (lists_within s.relations t.relations && lists_within t.relations s.relations) (values_agree s.counters t.counters) a.0 in
      let c = and_parts (lists_within s.relations t.relations) (lists_within t.relations s.relations) b.0 in
      λ i. record {
        has = λ k q. iff (is_in q (get_or s.relations k [])) (is_in q (get_or t.relations k [])) (within s.relations t.relations c.0 k q) (within t.relations s.relations c.1 k q) i;
        count = λ k q. one_value_at s.counters t.counters b.1 a.1 k q i;
      }

  pub from_same_reads : reads s ≡ reads t → same_listing s t ≡ true
  from_same_reads p =
      let has : (k : ℕ) (q : List ℕ) → is_in q (get_or s.relations k []) ≡ is_in q (get_or t.relations k []) = λ k q. ap (λ (r : Reads). r.has k q) p in
      let count : (k : ℕ) (q : List ℕ) → count_in (get_or s.counters k []) q ≡ count_in (get_or t.counters k []) q = λ k q. ap (λ (r : Reads). r.count k q) p in
      and_from _ _ (and_from _ _ (and_from _ _
      (from_within s.relations t.relations (λ k q m. sym (has k q) ∙ m))
      (from_within t.relations s.relations (λ k q m. has k q ∙ m)))
      (from_values s.counters t.counters count))
      (from_values t.counters s.counters (λ k q. sym (count k q)))
