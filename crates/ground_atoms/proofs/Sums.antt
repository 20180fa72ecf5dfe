-- Terms added up by the arithmetic of rows.
use Rattle.std.proofs.Common.{◌≡◌, ℕ, zero, suc, ℤ, pos, negsuc, ◌+ℤ◌, Bool, true, false, not, cond, List, [], ◌∷◌, refl, sym, ◌∙◌, ap, arith, Option, Some, None, fold}
use Rattle.std.proofs.lemmas.Int.{ints}
use Rattle.std.specs.Prelude.{ltb}
use Rattle.std.specs.List.{list_all}
use Rattle.std.specs.Option.{option_map, option_and_then}
use Rattle.std.proofs.lemmas.Bool.{and_parts, and_from}
use Rattle.lin_rows.specs.Numbers.{fit, in_range, is_zero}
use Rattle.lin_rows.specs.declared.term.RowTerm.{RowTerm}
use Rattle.lin_rows.specs.Rows.{Row}
use Rattle.lin_rows.specs.Sums.{put, put_fit, merged, collected, row_of}
use Rattle.ground_numbers.specs.Numbers.{with_term, added_up}

abbrev no_zeros : List RowTerm → Bool
no_zeros ts = list_all (λ t. not (is_zero t.coef)) ts

put-no_zeros : (t : RowTerm) (ts : List RowTerm) → no_zeros ts ≡ true → no_zeros (put t ts) ≡ true
put-no_zeros t ts h = by_test (is_zero t.coef) refl
  where
    by_test : (c : Bool) → is_zero t.coef ≡ c → no_zeros (cond c ts (t ∷ ts)) ≡ true
    by_test true e = h
    by_test false e = and_from (not (is_zero t.coef)) (no_zeros ts) (ap not e) h

with_term-no_zeros : (ts : List RowTerm) (u : RowTerm) → no_zeros ts ≡ true → no_zeros (with_term ts u) ≡ true
with_term-no_zeros [] u h = put-no_zeros u [] refl
with_term-no_zeros (t ∷ ts) u h = by_tests (with_term-no_zeros ts u (and_parts (not (is_zero t.coef)) (no_zeros ts) h).1) (ltb t.place u.place) (ltb u.place t.place)
  where
    by_tests : no_zeros (with_term ts u) ≡ true → (a b : Bool) → no_zeros (cond a (t ∷ with_term ts u) (cond b (put u (t ∷ ts)) (put (record { place = t.place; coef = t.coef +ℤ u.coef }) ts))) ≡ true
    by_tests k true b = and_from (not (is_zero t.coef)) (no_zeros (with_term ts u)) (and_parts (not (is_zero t.coef)) (no_zeros ts) h).0 k
    by_tests k false true = put-no_zeros u (t ∷ ts) h
    by_tests k false false = put-no_zeros _ ts (and_parts (not (is_zero t.coef)) (no_zeros ts) h).1

is_zero-is : (k : ℤ) → is_zero k ≡ true → k ≡ pos 0
is_zero-is (pos zero) h = refl
is_zero-is (pos (suc n)) h = absurd cc
is_zero-is (negsuc n) h = absurd cc

not-true : (b : Bool) → not b ≡ true → b ≡ false
not-true true h = absurd cc
not-true false h = refl

put-kept : (t : RowTerm) (ts : List RowTerm) → is_zero t.coef ≡ false → put t ts ≡ t ∷ ts
put-kept t ts e = ap (λ (c : Bool). cond c ts (t ∷ ts)) e

put-left : (t : RowTerm) (ts : List RowTerm) → is_zero t.coef ≡ true → put t ts ≡ ts
put-left t ts e = ap (λ (c : Bool). cond c ts (t ∷ ts)) e

-- a term with the coefficient 0 changes nothing
with_term-zero : (ts : List RowTerm) (u : RowTerm) → no_zeros ts ≡ true → is_zero u.coef ≡ true → with_term ts u ≡ ts
with_term-zero [] u h z = put-left u [] z
with_term-zero (t ∷ ts) u h z = by_tests (with_term-zero ts u (and_parts (not (is_zero t.coef)) (no_zeros ts) h).1 z) (ltb t.place u.place) (ltb u.place t.place)
  where
    stays : t.coef +ℤ u.coef ≡ t.coef
    stays = (let e = is_zero-is u.coef z in omega (arith, ints))

    by_tests : with_term ts u ≡ ts → (a b : Bool) → cond a (t ∷ with_term ts u) (cond b (put u (t ∷ ts)) (put (record { place = t.place; coef = t.coef +ℤ u.coef }) ts)) ≡ t ∷ ts
    by_tests k true b = ap (λ (l : List RowTerm). t ∷ l) k
    by_tests k false true = put-left u (t ∷ ts) z
    by_tests k false false = ap (λ (c : ℤ). put (record { place = t.place; coef = c }) ts) stays ∙ put-kept t ts (not-true (is_zero t.coef) (and_parts (not (is_zero t.coef)) (no_zeros ts) h).0)

merged-none : (ts : List RowTerm) → merged ts [] ≡ Some ts
merged-none [] = refl
merged-none (t ∷ ts) = refl

some-is : {X : Type 0} {x y : X} → Some x ≡ Some y → x ≡ y
some-is e = cc

put_fit-is : (p : ℕ) (k : ℤ) (ts x : List RowTerm) → put_fit p (fit k) (Some ts) ≡ Some x → put (record { place = p; coef = k }) ts ≡ x
put_fit-is p k ts x = by_test (in_range k)
  where
    by_test : (c : Bool) → put_fit p (cond c (Some k) None) (Some ts) ≡ Some x → put (record { place = p; coef = k }) ts ≡ x
    by_test true h = some-is h
    by_test false h = absurd cc

-- another term, added by the arithmetic of rows
merged-one : (ts : List RowTerm) (u : RowTerm) (x : List RowTerm) → is_zero u.coef ≡ false → merged ts (u ∷ []) ≡ Some x → with_term ts u ≡ x
merged-one [] u x z h = put-kept u [] z ∙ some-is h
merged-one (t ∷ ts) u x z h = by_tests (λ y e. merged-one ts u y z e) (ltb t.place u.place) (ltb u.place t.place) h
  where
    further : (o : Option (List RowTerm)) → ((y : List RowTerm) → o ≡ Some y → with_term ts u ≡ y) → option_map (λ l. t ∷ l) o ≡ Some x → t ∷ with_term ts u ≡ x
    further (Some y) f g = ap (λ (l : List RowTerm). t ∷ l) (f y refl) ∙ some-is g
    further None f g = absurd cc

    by_tests : ((y : List RowTerm) → merged ts (u ∷ []) ≡ Some y → with_term ts u ≡ y) → (a b : Bool)
        → cond a (option_map (λ l. t ∷ l) (merged ts (u ∷ []))) (cond b (Some (u ∷ t ∷ ts)) (put_fit t.place (fit (t.coef +ℤ u.coef)) (merged ts []))) ≡ Some x
        → cond a (t ∷ with_term ts u) (cond b (put u (t ∷ ts)) (put (record { place = t.place; coef = t.coef +ℤ u.coef }) ts)) ≡ x
    by_tests k true b g = further (merged ts (u ∷ [])) k g
    by_tests k false true g = put-kept u (t ∷ ts) z ∙ some-is g
    by_tests k false false g = put_fit-is t.place (t.coef +ℤ u.coef) ts x (ap (λ (o : Option (List RowTerm)). put_fit t.place (fit (t.coef +ℤ u.coef)) o) (sym (merged-none ts)) ∙ g)

merged-is : (ts : List RowTerm) (u : RowTerm) (x : List RowTerm) → no_zeros ts ≡ true → merged ts (put u []) ≡ Some x → with_term ts u ≡ x
merged-is ts u x h g = by_test (is_zero u.coef) refl
  where
    by_test : (c : Bool) → is_zero u.coef ≡ c → with_term ts u ≡ x
    by_test true e = with_term-zero ts u h e ∙ some-is (sym (ap (λ (l : List RowTerm). merged ts l) (put-left u [] e) ∙ merged-none ts) ∙ g)
    by_test false e = merged-one ts u x e (sym (ap (λ (l : List RowTerm). merged ts l) (put-kept u [] e)) ∙ g)

collected-is : (so_far ts x : List RowTerm) → no_zeros so_far ≡ true → collected so_far ts ≡ Some x → fold with_term so_far ts ≡ x
collected-is so_far [] x h g = some-is g
collected-is so_far (t ∷ ts) x h g = further (λ k. collected-is (with_term so_far t) ts x (with_term-no_zeros so_far t h) k) (merged so_far (put t [])) refl g
  where
    further : (collected (with_term so_far t) ts ≡ Some x → fold with_term (with_term so_far t) ts ≡ x) → (o : Option (List RowTerm)) → merged so_far (put t []) ≡ o → option_and_then (λ next. collected next ts) o ≡ Some x → fold with_term (with_term so_far t) ts ≡ x
    further f (Some next) e k = (let p = merged-is so_far t next h e in f (ap (λ (l : List RowTerm). collected l ts) p ∙ k))
    further f None e k = absurd cc

-- The row of terms, where it has one, is their sum.
pub row_of-is : (ts : List RowTerm) (bound : ℤ) (r : Row) → row_of ts bound ≡ Some r → r ≡ record { terms = added_up ts; bound = bound }
row_of-is ts bound r g = further (collected [] ts) refl g
  where
    further : (o : Option (List RowTerm)) → collected [] ts ≡ o → option_map (λ (terms : List RowTerm). record { terms = terms; bound = bound }) o ≡ Some r → r ≡ record { terms = added_up ts; bound = bound }
    further (Some x) e k = sym (some-is k) ∙ ap (λ (l : List RowTerm). record { terms = l; bound = bound }) (sym (collected-is [] ts x refl e))
    further None e k = absurd cc
