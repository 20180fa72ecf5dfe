use Rattle.std.proofs.Common.{◌≡◌, ℕ, zero, suc, ◌<◌, ◌≤◌, ◌^◌, ℤ, pos, negsuc, ◌+ℤ◌, ◌*ℤ◌, ◌-ℤ◌, Bool, true, false, cond, not, List, [], ◌∷◌, map, refl, sym, ◌∙◌, ap, subst, arith, unsigned_abs, ◌⊎◌, inl, inr, Option, Some, None}
use Rattle.std.specs.Prelude.{nat_eq, nat_lt, nat_le, int_lt}
use Rattle.std.specs.Int.{int_div_euclid}
use Rattle.std.specs.Option.{option_map, option_and_then}
use Rattle.std.proofs.lemmas.Bool.{and_from, and_parts}
use Rattle.std.proofs.lemmas.Int.{ints}
use Rattle.std.proofs.lemmas.Bool.Decides.{nat_tests}
use Rattle.std.proofs.lemmas.Nat.Gcd.{le_of_dvd}
use Rattle.std.proofs.Math.Nat.{div-one}
use Rattle.lin_rows.specs.Numbers.{fit, in_range, is_zero}
use Rattle.lin_rows.specs.declared.term.RowTerm.{RowTerm}
use Rattle.lin_rows.specs.Rows.{Row, is_row, coefficient_at, has_no_terms, rises_from, is_contradiction}
use Rattle.lin_rows.specs.Divisors.{divisor_of, divided_term, divided, tightened}
use Rattle.lin_rows.specs.Sums.{put, put_fit, scaled, merged_with, merged, row_fit, times_row, plus_row, row_sum}
use Rattle.lin_rows.proofs.Points.{value_at-merged}
use Rattle.lin_rows.proofs.Kept.{Rises, rises, rises_of}
use Rattle.lin_rows.proofs.Rounding.{divisor_of-row, tightened-cases}
use Rattle.lin_rows.proofs.Sums.{is_row-plus}
use Rattle.lin_rows.proofs.CancellingLemmas.{unit_point, value_at-unit}
use Rattle.diff_bounds.specs.Spans.{place_value, Spans}

-- SMALL COEFFICIENTS: at most 1 in size

abbrev pub AreSmall : List RowTerm → Type 0
AreSmall [] = Unit {0}
AreSmall (t ∷ ts) = (unsigned_abs t.coef ≤ 1) × AreSmall ts

-- coefficients at places above all others are 0
coefficient-below : (p least : ℕ) (ts : List RowTerm) → p < least → rises_from least ts ≡ true → coefficient_at ts p ≡ pos 0
coefficient-below p least [] h k = refl
coefficient-below p least (t ∷ ts) h k =
    let q = rises least t ts k in
    by_place (nat_eq t.place p) refl (coefficient-below p (suc t.place) ts (beyond t.place q.place_from) q.others)
  where
    r : Rises least t ts
    r = rises least t ts k

    apart : (q : ℕ) → nat_le least q ≡ true → nat_eq q p ≡ true → ⊥
    apart q m e = grind (arith, nat_tests)

    beyond : (q : ℕ) → nat_le least q ≡ true → p < suc q
    beyond q m = grind (arith, nat_tests)

    by_place : (b : Bool) → nat_eq t.place p ≡ b → coefficient_at ts p ≡ pos 0 → cond b t.coef (coefficient_at ts p) ≡ pos 0
    by_place true e f = absurd (apart t.place r.place_from e)
    by_place false e f = f

same_place : (p : ℕ) → nat_eq p p ≡ true
same_place p = grind (arith, nat_tests)

-- terms whose coefficients by place are small
small-from : (least : ℕ) (ts : List RowTerm) → rises_from least ts ≡ true → ((p : ℕ) → unsigned_abs (coefficient_at ts p) ≤ 1) → AreSmall ts
small-from least [] k h = tt
small-from least (t ∷ ts) k h = (head, small-from (suc t.place) ts r.others (λ p. other p (nat_eq t.place p) refl))
  where
    r : Rises least t ts
    r = rises least t ts k

    head : unsigned_abs t.coef ≤ 1
    head = subst (λ (b : Bool). unsigned_abs (cond b t.coef (coefficient_at ts t.place)) ≤ 1) (same_place t.place) (h t.place)

    same : (p : ℕ) → nat_eq t.place p ≡ true → p < suc t.place
    same p e = grind (arith, nat_tests)

    none : (c : ℤ) → c ≡ pos 0 → unsigned_abs c ≤ 1
    none c e = subst (λ (z : ℤ). unsigned_abs z ≤ 1) (sym e) (omega arith)

    other : (p : ℕ) (b : Bool) → nat_eq t.place p ≡ b → unsigned_abs (coefficient_at ts p) ≤ 1
    other p true e = none (coefficient_at ts p) (coefficient-below p (suc t.place) ts (same p e) r.others)
    other p false e = subst (λ (b : Bool). unsigned_abs (cond b t.coef (coefficient_at ts p)) ≤ 1) e (h p)

-- the coefficients of a row between two places are small
difference-small : (a b : ℤ) → (a ≡ pos 0) ⊎ (a ≡ pos 1) → (b ≡ pos 0) ⊎ (b ≡ pos 1) → unsigned_abs (a -ℤ b) ≤ 1
difference-small a b (inl h) (inl k) = subst (λ (z : ℤ). unsigned_abs (z -ℤ b) ≤ 1) (sym h) (subst (λ (z : ℤ). unsigned_abs (pos 0 -ℤ z) ≤ 1) (sym k) (omega arith))
difference-small a b (inl h) (inr k) = subst (λ (z : ℤ). unsigned_abs (z -ℤ b) ≤ 1) (sym h) (subst (λ (z : ℤ). unsigned_abs (pos 0 -ℤ z) ≤ 1) (sym k) (omega arith))
difference-small a b (inr h) (inl k) = subst (λ (z : ℤ). unsigned_abs (z -ℤ b) ≤ 1) (sym h) (subst (λ (z : ℤ). unsigned_abs (pos 1 -ℤ z) ≤ 1) (sym k) (omega arith))
difference-small a b (inr h) (inr k) = subst (λ (z : ℤ). unsigned_abs (z -ℤ b) ≤ 1) (sym h) (subst (λ (z : ℤ). unsigned_abs (pos 1 -ℤ z) ≤ 1) (sym k) (omega arith))

unit-values : (n p q : ℕ) → (place_value n (unit_point p) q ≡ pos 0) ⊎ (place_value n (unit_point p) q ≡ pos 1)
unit-values n p q = by_case (nat_lt q n) (nat_eq q p)
  where
    by_case : (a b : Bool) → (cond a (cond b (pos 1) (pos 0)) (pos 0) ≡ pos 0) ⊎ (cond a (cond b (pos 1) (pos 0)) (pos 0) ≡ pos 1)
    by_case true true = inr refl
    by_case true false = inl refl
    by_case false b = inl refl

spans-coefficient : (n : ℕ) (r : Row) (from to : ℕ) (b : ℤ) → Spans n r from to b → (p : ℕ) → coefficient_at r.terms p ≡ place_value n (unit_point p) to -ℤ place_value n (unit_point p) from
spans-coefficient n r from to b s p = sym (value_at-unit p 0 r.terms (rises_of r s.row)) ∙ s.value (unit_point p)

pub spans-small : (n : ℕ) (r : Row) (from to : ℕ) (b : ℤ) → Spans n r from to b → AreSmall r.terms
spans-small n r from to b s =
    small-from 0 r.terms (rises_of r s.row)
    (λ p. subst (λ (z : ℤ). unsigned_abs z ≤ 1) (sym (spans-coefficient n r from to b s p)) (difference-small (place_value n (unit_point p) to) (place_value n (unit_point p) from) (unit-values n p to) (unit-values n p from)))

-- SUMS

fit-small : (c : ℤ) → in_range c ≡ true → fit c ≡ Some c
fit-small c h = ap (λ (b : Bool). cond b (Some c) None) h

one-times : (c : ℤ) → pos 1 *ℤ c ≡ c
one-times c = omega (arith, ints)

-- once times a row is the row
scaled-one : (least : ℕ) (ts : List RowTerm) → rises_from least ts ≡ true → scaled (pos 1) ts ≡ Some ts
scaled-one least [] k = refl
scaled-one least (t ∷ ts) k =
    (λ i. put_fit t.place (first i) (scaled-one (suc t.place) ts r.others i)) ∙ ap (λ (b : Bool). Some (cond b ts (t ∷ ts))) nonzero
  where
    r : Rises least t ts
    r = rises least t ts k

    parts : (not (is_zero t.coef) ≡ true) × (in_range t.coef ≡ true)
    parts = and_parts (not (is_zero t.coef)) (in_range t.coef) r.coefficient

    not_false : (b : Bool) → not b ≡ true → b ≡ false
    not_false true h = absurd cc
    not_false false h = refl

    nonzero : is_zero t.coef ≡ false
    nonzero = not_false (is_zero t.coef) parts.0

    first : fit (pos 1 *ℤ t.coef) ≡ Some t.coef
    first = ap fit (one-times t.coef) ∙ fit-small t.coef parts.1

times-one : (r : Row) → is_row r ≡ true → times_row (pos 1) r ≡ Some r
times-one r k =
    (λ i. row_fit (scaled-one 0 r.terms (rises_of r k) i) ((ap fit (one-times r.bound) ∙ fit-small r.bound (and_parts (rises_from 0 r.terms) (in_range r.bound) k).1) i))

-- small coefficients add up in range
sum-fits : (a b : ℤ) → unsigned_abs a ≤ 1 → unsigned_abs b ≤ 1 → in_range (a +ℤ b) ≡ true
sum-fits a b h k = test (unsigned_abs (a +ℤ b)) (sizes a b h k)
  where
    sizes : (a b : ℤ) → unsigned_abs a ≤ 1 → unsigned_abs b ≤ 1 → unsigned_abs (a +ℤ b) ≤ 2
    sizes a b h k = omega (arith, ints)

    test : (n : ℕ) → n ≤ 2 → nat_lt n (2 ^ 127) ≡ true
    test n h = grind (arith, nat_tests)

abbrev Gives : Option (List RowTerm) → Type 0
Gives o = (ts : List RowTerm) × (o ≡ Some ts)

merged-with-gives : (t : RowTerm) (a : List RowTerm) (m : List RowTerm → Option (List RowTerm)) → unsigned_abs t.coef ≤ 1 → ((b : List RowTerm) → AreSmall b → Gives (m b))
    → (b : List RowTerm) → AreSmall b → Gives (merged_with t a m b)
merged-with-gives t a m h f [] k = (t ∷ a, refl)
merged-with-gives t a m h f (y ∷ b) k = by_case (nat_lt t.place y.place) (nat_lt y.place t.place) (f (y ∷ b) k) (f b k.1) (merged-with-gives t a m h f b k.1)
  where
    by_case : (p q : Bool) → Gives (m (y ∷ b)) → Gives (m b) → Gives (merged_with t a m b)
        → Gives (cond p (option_map (λ ts. t ∷ ts) (m (y ∷ b))) (cond q (option_map (λ ts. y ∷ ts) (merged_with t a m b)) (put_fit t.place (fit (t.coef +ℤ y.coef)) (m b))))
    by_case true q u v w = (t ∷ u.0, ap (option_map (λ ts. t ∷ ts)) u.1)
    by_case false true u v w = (y ∷ w.0, ap (option_map (λ ts. y ∷ ts)) w.1)
    by_case false false u v w = (put (record { place = t.place; coef = t.coef +ℤ y.coef }) v.0, λ i. put_fit t.place (fit-small (t.coef +ℤ y.coef) (sum-fits t.coef y.coef h k.0) i) (v.1 i))

merged-gives : (a b : List RowTerm) → AreSmall a → AreSmall b → Gives (merged a b)
merged-gives [] b h k = (b, refl)
merged-gives (t ∷ a) b h k = merged-with-gives t a (λ b. merged a b) h.0 (λ b k. merged-gives a b h.1 k) b k

-- TIGHTENING: a row with small coefficients stays as it is

over-one : (c : ℤ) → int_div_euclid c (pos 1) ≡ c
over-one (pos a) = ap pos (div-one a)
over-one (negsuc a) = ap negsuc (div-one a)

divided-one : (ts : List RowTerm) → map (divided_term (pos 1)) ts ≡ ts
divided-one [] = refl
divided-one (t ∷ ts) = λ i. record { place = t.place; coef = over-one t.coef i } ∷ divided-one ts i

divisor-one : (ts : List RowTerm) → has_no_terms ts ≡ false → rises_from 0 ts ≡ true → AreSmall ts → divisor_of ts ≡ 1
divisor-one [] h k s = absurd cc
divisor-one (t ∷ ts) h k s =
    let d = divisor_of-row (t ∷ ts) h k in
    let r = rises 0 t ts k in
    let p = positive t.coef (and_parts (not (is_zero t.coef)) (in_range t.coef) r.coefficient).0 in
    let l : divisor_of (t ∷ ts) ≤ unsigned_abs t.coef = le_of_dvd p d.divides.0 in
    omega (arith, d.positive, s.0)
  where
    positive : (c : ℤ) → not (is_zero c) ≡ true → 0 < unsigned_abs c
    positive (pos zero) h = absurd cc
    positive (pos (suc n)) h = omega arith
    positive (negsuc n) h = omega arith

tightened-small : (r : Row) → is_row r ≡ true → AreSmall r.terms → tightened r ≡ r
tightened-small r k s =
    tightened-cases (λ q. q ≡ r) r (λ h. refl)
    (λ h. ap (λ n. divided (pos n) r) (divisor-one r.terms h (rises_of r k) s) ∙ (λ i. record { terms = divided-one r.terms i; bound = over-one r.bound i }))

-- THE SUM OF TWO ROWS between three places

pub spans-sum : (n : ℕ) (l r : Row) (s u t : ℕ) (a b : ℤ) → Spans n l u t a → Spans n r s u b → in_range (a +ℤ b) ≡ true
    → (m : Row) × (row_sum l (pos 1) r (pos 1) ≡ Some m) × Spans n m s t (a +ℤ b)
spans-sum n l r s u t a b f g h = (out, sum_is, spans)
  where
    m : Gives (merged l.terms r.terms)
    m = merged-gives l.terms r.terms (spans-small n l u t a f) (spans-small n r s u b g)

    out : Row
    out = record { terms = m.0; bound = l.bound +ℤ r.bound }

    bound_is : l.bound +ℤ r.bound ≡ a +ℤ b
    bound_is = λ i. f.bound_is i +ℤ g.bound_is i

    plus_is : plus_row l r ≡ Some out
    plus_is = λ i. row_fit (m.1 i) (fit-small (l.bound +ℤ r.bound) (ap in_range bound_is ∙ h) i)

    row_is : is_row out ≡ true
    row_is = is_row-plus l r out f.row g.row plus_is

    spans : Spans n out s t (a +ℤ b)
    spans = record {
      row = row_is;
      value = λ x. (let v = value_at-merged x l.terms r.terms m.0 m.1 in let p = f.value x in let q = g.value x in omega (arith, ints));
      bound_is = bound_is;
    }

    sum_is : row_sum l (pos 1) r (pos 1) ≡ Some out
    sum_is =
        (λ i. option_and_then (λ p. option_and_then (λ q. option_map tightened (plus_row p q)) (times_row (pos 1) r)) (times-one l f.row i))
        ∙ (λ i. option_and_then (λ q. option_map tightened (plus_row l q)) (times-one r g.row i))
        ∙ ap (option_map tightened) plus_is
        ∙ ap (λ (q : Row). Some q) (tightened-small out row_is (spans-small n out s t (a +ℤ b) spans))

-- a row from a place to itself
pub spans-contradiction : (n : ℕ) (r : Row) (s : ℕ) (b : ℤ) → Spans n r s s b → int_lt b (pos 0) ≡ true → is_contradiction r ≡ true
spans-contradiction n r s b f h =
    and_from (has_no_terms r.terms) (int_lt r.bound (pos 0))
    (empty r.terms (rises_of r f.row) (λ p. spans-coefficient n r s s b f p ∙ none (place_value n (unit_point p) s)))
    (ap (λ z. int_lt z (pos 0)) f.bound_is ∙ h)
  where
    none : (a : ℤ) → a -ℤ a ≡ pos 0
    none a = omega (arith, ints)

    not_zero : (c : ℤ) → c ≡ pos 0 → not (is_zero c) ≡ true → ⊥
    not_zero c e k = let z : is_zero c ≡ true = ap is_zero e in absurd cc

    empty : (ts : List RowTerm) → rises_from 0 ts ≡ true → ((p : ℕ) → coefficient_at ts p ≡ pos 0) → has_no_terms ts ≡ true
    empty [] k c = refl
    empty (t ∷ ts) k c =
        let r = rises 0 t ts k in
        absurd (not_zero t.coef (subst (λ (b : Bool). cond b t.coef (coefficient_at ts t.place) ≡ pos 0) (same_place t.place) (c t.place)) (and_parts (not (is_zero t.coef)) (in_range t.coef) r.coefficient).0)
