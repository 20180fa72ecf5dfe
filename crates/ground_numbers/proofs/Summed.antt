-- Terms added up are what the row of terms holds, where no sum leaves the range of a row.
use Rattle.std.proofs.Common.{◌≡◌, ℕ, zero, suc, ◌+◌, ◌<◌, ◌≤◌, ℤ, pos, negsuc, ◌+ℤ◌, Bool, true, false, not, cond, Option, Some, None, List, [], ◌∷◌, refl, sym, ◌∙◌, ap, arith}
use Rattle.std.specs.Prelude.{◌^◌, nat_lt, unsigned_abs}
use Rattle.std.specs.List.{fold, list_all}
use Rattle.std.specs.Option.{option_map, option_and_then}
use Rattle.std.proofs.lemmas.Bool.{and_parts, and_from}
use Rattle.std.proofs.lemmas.Bool.Decides.{nat_tests}
use Rattle.std.proofs.lemmas.Int.{ints}
use Rattle.lin_rows.specs.declared.term.RowTerm.{RowTerm}
use Rattle.lin_rows.specs.Numbers.{in_range, fit, is_zero}
use Rattle.lin_rows.specs.Rows.{Row}
use Rattle.lin_rows.specs.Sums.{put, put_fit, merged, collected, row_of}
use Rattle.ground_numbers.specs.Numbers.{with_term, added_up}
use Rattle.ground_numbers.specs.Sizes.{size_of_terms}

-- ---- sizes

pub size-plus : (a b : ℤ) → unsigned_abs (a +ℤ b) ≤ unsigned_abs a + unsigned_abs b
size-plus a b = grind (arith, ints)

put-size : (p : ℕ) (k : ℤ) (ts : List RowTerm) → size_of_terms (put (record { place = p; coef = k }) ts) ≡ unsigned_abs k + size_of_terms ts
put-size p (pos zero) ts = (let e : size_of_terms ts ≡ 0 + size_of_terms ts = omega arith in e)
put-size p (pos (suc n)) ts = refl
put-size p (negsuc n) ts = refl

pub with_term-size : (ts : List RowTerm) (u : RowTerm) → size_of_terms (with_term ts u) ≤ size_of_terms ts + unsigned_abs u.coef
with_term-size [] u = (let e = put-size u.place u.coef [] in omega arith)
with_term-size (t ∷ ts) u = by_tests (nat_lt t.place u.place) (nat_lt u.place t.place) (with_term-size ts u)
  where
    longer : (a b c d : ℕ) → b ≤ c + d → a + b ≤ a + c + d
    longer a b c d h = omega arith

    same_size : (a b : ℕ) → a ≡ b → a ≤ b
    same_size a b e = omega arith

    swapped : (a b : ℕ) → a + b ≡ b + a
    swapped a b = omega arith

    together : (x s a b c : ℕ) → x ≡ s + c → s ≤ a + b → x ≤ a + c + b
    together x s a b c e h = omega arith

    by_tests : (b c : Bool) → size_of_terms (with_term ts u) ≤ size_of_terms ts + unsigned_abs u.coef → size_of_terms (cond b (t ∷ with_term ts u) (cond c (put u (t ∷ ts)) (put (record { place = t.place; coef = t.coef +ℤ u.coef }) ts))) ≤ unsigned_abs t.coef + size_of_terms ts + unsigned_abs u.coef
    by_tests true c ih = longer (unsigned_abs t.coef) (size_of_terms (with_term ts u)) (size_of_terms ts) (unsigned_abs u.coef) ih
    by_tests false true ih = same_size _ _ (put-size u.place u.coef (t ∷ ts) ∙ swapped (unsigned_abs u.coef) (size_of_terms (t ∷ ts)))
    by_tests false false ih = together _ (unsigned_abs (t.coef +ℤ u.coef)) (unsigned_abs t.coef) (unsigned_abs u.coef) (size_of_terms ts) (put-size t.place (t.coef +ℤ u.coef) ts) (size-plus t.coef u.coef)

-- ---- terms that are there

abbrev pub none_zero : List RowTerm → Bool
none_zero ts = list_all (λ t. not (is_zero t.coef)) ts

put-none_zero : (p : ℕ) (k : ℤ) (ts : List RowTerm) → none_zero ts ≡ true → none_zero (put (record { place = p; coef = k }) ts) ≡ true
put-none_zero p (pos zero) ts h = h
put-none_zero p (pos (suc n)) ts h = h
put-none_zero p (negsuc n) ts h = h

with_term-none_zero : (ts : List RowTerm) (u : RowTerm) → none_zero ts ≡ true → none_zero (with_term ts u) ≡ true
with_term-none_zero [] u h = put-none_zero u.place u.coef [] h
with_term-none_zero (t ∷ ts) u h =
    let k = and_parts (not (is_zero t.coef)) (none_zero ts) h in
    by_tests (nat_lt t.place u.place) (nat_lt u.place t.place) k.0 k.1 (with_term-none_zero ts u k.1)
  where
    by_tests : (b c : Bool) → not (is_zero t.coef) ≡ true → none_zero ts ≡ true → none_zero (with_term ts u) ≡ true → none_zero (cond b (t ∷ with_term ts u) (cond c (put u (t ∷ ts)) (put (record { place = t.place; coef = t.coef +ℤ u.coef }) ts))) ≡ true
    by_tests true c p q ih = and_from (not (is_zero t.coef)) _ p ih
    by_tests false true p q ih = put-none_zero u.place u.coef (t ∷ ts) h
    by_tests false false p q ih = put-none_zero t.place (t.coef +ℤ u.coef) ts q

-- ---- one term more

merged-none : (ts : List RowTerm) → merged ts [] ≡ Some ts
merged-none [] = refl
merged-none (t ∷ ts) = refl

zero_is : (k : ℤ) → is_zero k ≡ true → k ≡ pos 0
zero_is (pos zero) h = refl
zero_is (pos (suc n)) h = absurd cc
zero_is (negsuc n) h = absurd cc

put-zero : (p : ℕ) (k : ℤ) (ts : List RowTerm) → is_zero k ≡ true → put (record { place = p; coef = k }) ts ≡ ts
put-zero p k ts h = ap (λ b. cond b ts (record { place = p; coef = k } ∷ ts)) h

put-there : (p : ℕ) (k : ℤ) (ts : List RowTerm) → not (is_zero k) ≡ true → put (record { place = p; coef = k }) ts ≡ record { place = p; coef = k } ∷ ts
put-there p k ts h = ap (λ b. cond b ts (record { place = p; coef = k } ∷ ts)) (is_false (is_zero k) h)
  where
    is_false : (b : Bool) → not b ≡ true → b ≡ false
    is_false b h = grind arith

-- a term with the coefficient 0 adds nothing
with_term-zero : (ts : List RowTerm) (u : RowTerm) → none_zero ts ≡ true → is_zero u.coef ≡ true → with_term ts u ≡ ts
with_term-zero [] u h z = put-zero u.place u.coef [] z
with_term-zero (t ∷ ts) u h z =
    let k = and_parts (not (is_zero t.coef)) (none_zero ts) h in
    by_tests (nat_lt t.place u.place) (nat_lt u.place t.place) k.0 (with_term-zero ts u k.1 z)
  where
    plus_none : (a b : ℤ) → b ≡ pos 0 → a +ℤ b ≡ a
    plus_none a b e = omega (arith, ints)

    by_tests : (b c : Bool) → not (is_zero t.coef) ≡ true → with_term ts u ≡ ts → cond b (t ∷ with_term ts u) (cond c (put u (t ∷ ts)) (put (record { place = t.place; coef = t.coef +ℤ u.coef }) ts)) ≡ t ∷ ts
    by_tests true c p ih = ap (λ us. t ∷ us) ih
    by_tests false true p ih = put-zero u.place u.coef (t ∷ ts) z
    by_tests false false p ih = ap (λ k. put (record { place = t.place; coef = k }) ts) (plus_none t.coef u.coef (zero_is u.coef z)) ∙ put-there t.place t.coef ts p

fits-there : (k : ℤ) → in_range k ≡ true → fit k ≡ Some k
fits-there k h = ap (λ b. cond b (Some k) None) h

within : (k : ℤ) (n m : ℕ) → unsigned_abs k ≤ n → n < m → nat_lt (unsigned_abs k) m ≡ true
within k n m h l = grind (arith, nat_tests)

-- a term whose coefficient isn't 0
merged-one : (ts : List RowTerm) (u : RowTerm) → not (is_zero u.coef) ≡ true → size_of_terms ts + unsigned_abs u.coef < 2 ^ 127 → merged ts (u ∷ []) ≡ Some (with_term ts u)
merged-one [] u z l = ap Some (sym (put-there u.place u.coef [] z))
merged-one (t ∷ ts) u z l = by_tests (nat_lt t.place u.place) (nat_lt u.place t.place) (merged-one ts u z (less (unsigned_abs t.coef) (size_of_terms ts) (unsigned_abs u.coef) (2 ^ 127) l))
  where
    less : (a b c m : ℕ) → a + b + c < m → b + c < m
    less a b c m l = omega arith

    between : (a b c d m : ℕ) → d ≤ a + c → a + b + c < m → d < m
    between a b c d m h l = omega arith

    fits : in_range (t.coef +ℤ u.coef) ≡ true
    fits = test _ _ (between (unsigned_abs t.coef) (size_of_terms ts) (unsigned_abs u.coef) (unsigned_abs (t.coef +ℤ u.coef)) (2 ^ 127) (size-plus t.coef u.coef) l)
      where
        test : (a b : ℕ) → a < b → nat_lt a b ≡ true
        test a b h = grind (arith, nat_tests)

    by_tests : (b c : Bool) → merged ts (u ∷ []) ≡ Some (with_term ts u)
        → cond b (option_map (λ us. t ∷ us) (merged ts (u ∷ []))) (cond c (Some (u ∷ t ∷ ts)) (put_fit t.place (fit (t.coef +ℤ u.coef)) (merged ts []))) ≡ Some (cond b (t ∷ with_term ts u) (cond c (put u (t ∷ ts)) (put (record { place = t.place; coef = t.coef +ℤ u.coef }) ts)))
    by_tests true c ih = ap (option_map (λ us. t ∷ us)) ih
    by_tests false true ih = ap Some (sym (put-there u.place u.coef (t ∷ ts) z))
    by_tests false false ih = ap (λ o. put_fit t.place o (merged ts [])) (fits-there (t.coef +ℤ u.coef) fits) ∙ ap (put_fit t.place (Some (t.coef +ℤ u.coef))) (merged-none ts)

merged-put : (ts : List RowTerm) (u : RowTerm) → none_zero ts ≡ true → size_of_terms ts + unsigned_abs u.coef < 2 ^ 127 → merged ts (put u []) ≡ Some (with_term ts u)
merged-put ts u h l = by_test (is_zero u.coef) refl
  where
    not_it : (b : Bool) → b ≡ false → not b ≡ true
    not_it b h = grind arith

    by_test : (b : Bool) → is_zero u.coef ≡ b → merged ts (cond b [] (u ∷ [])) ≡ Some (with_term ts u)
    by_test true e = merged-none ts ∙ ap Some (sym (with_term-zero ts u h e))
    by_test false e = merged-one ts u (not_it (is_zero u.coef) e) l

-- ---- all terms

collected-is : (so_far ts : List RowTerm) → none_zero so_far ≡ true → size_of_terms so_far + size_of_terms ts < 2 ^ 127 → collected so_far ts ≡ Some (fold with_term so_far ts)
collected-is so_far [] h l = refl
collected-is so_far (t ∷ ts) h l =
    ap (option_and_then (λ next. collected next ts)) (merged-put so_far t h (first (size_of_terms so_far) (unsigned_abs t.coef) (size_of_terms ts) (2 ^ 127) l))
    ∙ collected-is (with_term so_far t) ts (with_term-none_zero so_far t h) (rest (size_of_terms so_far) (unsigned_abs t.coef) (size_of_terms ts) (size_of_terms (with_term so_far t)) (2 ^ 127) (with_term-size so_far t) l)
  where
    first : (a b c m : ℕ) → a + (b + c) < m → a + b < m
    first a b c m l = omega arith

    rest : (a b c d m : ℕ) → d ≤ a + b → a + (b + c) < m → d + c < m
    rest a b c d m h l = omega arith

-- The row of terms, added up in their order, is never out of range where the sizes of the coefficients are together in it.
pub row_of-is : (ts : List RowTerm) (bound : ℤ) → nat_lt (size_of_terms ts) (2 ^ 127) ≡ true → row_of ts bound ≡ Some (record { terms = added_up ts; bound = bound })
row_of-is ts bound l = ap (option_map (λ us. record { terms = us; bound = bound })) (collected-is [] ts refl (less _ _ l))
  where
    less : (a b : ℕ) → nat_lt a b ≡ true → 0 + a < b
    less a b h = grind (arith, nat_tests)

-- ---- what a row holds

some_is : {A : Type 0} {a b : A} → Some a ≡ Some b → a ≡ b
some_is {A = A} {a = a} {b = b} e = ap (value_or a) e
  where
    value_or : A → Option A → A
    value_or d None = d
    value_or d (Some x) = x

merged-one-some : (ts : List RowTerm) (u : RowTerm) (out : List RowTerm) → not (is_zero u.coef) ≡ true → merged ts (u ∷ []) ≡ Some out → with_term ts u ≡ out
merged-one-some [] u out z h = put-there u.place u.coef [] z ∙ some_is h
merged-one-some (t ∷ ts) u out z h = by_tests (nat_lt t.place u.place) (nat_lt u.place t.place) (merged-one-some ts u) h
  where
    by_rest : (o : Option (List RowTerm)) → ((x : List RowTerm) → o ≡ Some x → with_term ts u ≡ x) → option_map (λ us. t ∷ us) o ≡ Some out → t ∷ with_term ts u ≡ out
    by_rest None ih h = absurd cc
    by_rest (Some x) ih h = ap (λ us. t ∷ us) (ih x refl) ∙ some_is h

    by_range : (b : Bool) → put_fit t.place (cond b (Some (t.coef +ℤ u.coef)) None) (Some ts) ≡ Some out → put (record { place = t.place; coef = t.coef +ℤ u.coef }) ts ≡ out
    by_range true h = some_is h
    by_range false h = absurd cc

    by_tests : (b c : Bool) → ((x : List RowTerm) → not (is_zero u.coef) ≡ true → merged ts (u ∷ []) ≡ Some x → with_term ts u ≡ x)
        → cond b (option_map (λ us. t ∷ us) (merged ts (u ∷ []))) (cond c (Some (u ∷ t ∷ ts)) (put_fit t.place (fit (t.coef +ℤ u.coef)) (merged ts []))) ≡ Some out
        → cond b (t ∷ with_term ts u) (cond c (put u (t ∷ ts)) (put (record { place = t.place; coef = t.coef +ℤ u.coef }) ts)) ≡ out
    by_tests true c ih h = by_rest (merged ts (u ∷ [])) (λ x e. ih x z e) h
    by_tests false true ih h = put-there u.place u.coef (t ∷ ts) z ∙ some_is h
    by_tests false false ih h = by_range (in_range (t.coef +ℤ u.coef)) (ap (put_fit t.place (fit (t.coef +ℤ u.coef))) (sym (merged-none ts)) ∙ h)

merged-put-some : (ts : List RowTerm) (u : RowTerm) (out : List RowTerm) → none_zero ts ≡ true → merged ts (put u []) ≡ Some out → with_term ts u ≡ out
merged-put-some ts u out n h = by_test (is_zero u.coef) refl h
  where
    not_it : (b : Bool) → b ≡ false → not b ≡ true
    not_it b h = grind arith

    by_test : (b : Bool) → is_zero u.coef ≡ b → merged ts (cond b [] (u ∷ [])) ≡ Some out → with_term ts u ≡ out
    by_test true e h = with_term-zero ts u n e ∙ some_is (sym (merged-none ts) ∙ h)
    by_test false e h = merged-one-some ts u out (not_it (is_zero u.coef) e) h

collected-some : (so_far ts out : List RowTerm) → none_zero so_far ≡ true → collected so_far ts ≡ Some out → fold with_term so_far ts ≡ out
collected-some so_far [] out n h = some_is h
collected-some so_far (t ∷ ts) out n h = collected-some (with_term so_far t) ts out (with_term-none_zero so_far t n) (by_next (merged so_far (put t [])) (λ x e. merged-put-some so_far t x n e) h)
  where
    by_next : (o : Option (List RowTerm)) → ((x : List RowTerm) → o ≡ Some x → with_term so_far t ≡ x) → option_and_then (λ next. collected next ts) o ≡ Some out → collected (with_term so_far t) ts ≡ Some out
    by_next None f h = absurd cc
    by_next (Some x) f h = ap (λ next. collected next ts) (f x refl) ∙ h

-- A row of terms, where there is one, holds the terms added up.
pub row_of-some : (ts : List RowTerm) (bound : ℤ) (out : Row) → row_of ts bound ≡ Some out → out ≡ record { terms = added_up ts; bound = bound }
row_of-some ts bound out h = by_terms (collected [] ts) (λ x e. collected-some [] ts x refl e) h
  where
    by_terms : (o : Option (List RowTerm)) → ((x : List RowTerm) → o ≡ Some x → added_up ts ≡ x) → option_map (λ us. record { terms = us; bound = bound }) o ≡ Some out → out ≡ record { terms = added_up ts; bound = bound }
    by_terms None f h = absurd cc
    by_terms (Some x) f h = sym (ap (λ us. record { terms = us; bound = bound }) (f x refl) ∙ some_is h)

-- ---- the size of a sum

fold-size : (so_far ts : List RowTerm) → size_of_terms (fold with_term so_far ts) ≤ size_of_terms so_far + size_of_terms ts
fold-size so_far [] = omega arith
fold-size so_far (t ∷ ts) = joined _ (size_of_terms (with_term so_far t)) (size_of_terms so_far) (unsigned_abs t.coef) (size_of_terms ts) (fold-size (with_term so_far t) ts) (with_term-size so_far t)
  where
    joined : (x s a b c : ℕ) → x ≤ s + c → s ≤ a + b → x ≤ a + (b + c)
    joined x s a b c h k = omega arith

pub added_up-size : (ts : List RowTerm) → size_of_terms (added_up ts) ≤ size_of_terms ts
added_up-size ts = none _ (size_of_terms ts) (fold-size [] ts)
  where
    none : (a b : ℕ) → a ≤ 0 + b → a ≤ b
    none a b h = omega arith
