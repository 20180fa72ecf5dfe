use Rattle.std.proofs.Common.{◌≡◌, ◌≢◌, ℕ, zero, suc, ◌+◌, ◌*◌, ◌/◌, ◌^◌, ◌<◌, ℤ, pos, negsuc, ◌+ℤ◌, ◌*ℤ◌, ◌<ℤ◌, Bool, true, false, cond, List, [], ◌∷◌, map, refl, sym, ◌∙◌, ap, subst, arith, unsigned_abs, Some}
use Rattle.std.specs.Prelude.{nat_eq, nat_le, nat_lt, sum}
use Rattle.std.proofs.lemmas.Int.{ints}
use Rattle.std.proofs.lemmas.Bool.Decides.{nat_tests}
use Rattle.std.proofs.lemmas.List.Sums.{sum_by-cons}
use Rattle.std.proofs.Math.Nat.{mul-div_cancel', div-le_self}
use Rattle.std.proofs.Math.IntN.{pos-*ℤ-pos, pos-*ℤ-negsuc, *ℤ-zero, *ℤ-one}
use Rattle.lin_rows.specs.declared.term.RowTerm.{RowTerm}
use Rattle.lin_rows.specs.Numbers.{fit, in_range}
use Rattle.lin_rows.specs.Rows.{Row, has_no_terms, coefficient_at, is_row, rises_from, value_at}
use Rattle.lin_rows.specs.Divisors.{common_divisor, divisor_of, divided_term, divided, tightened}
use Rattle.lin_rows.specs.Sums.{scaled, merged, row_sum}
use Rattle.lin_rows.specs.Cancelling.{least_factor, first_factor, second_factor}
use Rattle.lin_rows.proofs.Points.{value_at-scaled, value_at-merged}
use Rattle.lin_rows.proofs.Kept.{second_of_both, Rises, rises, rises_of}
use Rattle.lin_rows.proofs.Divisor.{common_divisor-divides, le_common_divisor}
use Rattle.lin_rows.proofs.Rounding.{divisor_of-row, value_at-divided, is_row-tightened, tightened-cases}
use Rattle.lin_rows.proofs.Sums.{row_fit-went, Summed, row_sum-went, is_row-times, is_row-plus}

-- the point that is 1 at a place and 0 elsewhere
abbrev pub unit_point : ℕ → ℕ → ℤ
unit_point p q = cond (nat_eq q p) (pos 1) (pos 0)

-- the coefficient at a place is the value at its unit point
value_at-unit_above : (p : ℕ) (least : ℕ) (ts : List RowTerm) → p < least → rises_from least ts ≡ true → value_at (unit_point p) ts ≡ pos 0
value_at-unit_above p least [] h k = refl
value_at-unit_above p least (t ∷ ts) h k =
    let r = rises least t ts k in
    let l = above least t.place r.place_from h in
    let ih = value_at-unit_above p (suc t.place) ts (omega arith) r.others in
    let z = ap (λ (b : Bool). t.coef *ℤ cond b (pos 1) (pos 0)) (other t.place p l) ∙ *ℤ-zero t.coef in
    omega (arith, ints)
  where
    above : (a b : ℕ) → nat_le a b ≡ true → p < a → p < b
    above a b h k = grind (arith, nat_tests)

    other : (q p : ℕ) → p < q → nat_eq q p ≡ false
    other q p h = grind (arith, nat_tests)

pub value_at-unit : (p : ℕ) (least : ℕ) (ts : List RowTerm) → rises_from least ts ≡ true → value_at (unit_point p) ts ≡ coefficient_at ts p
value_at-unit p least [] k = refl
value_at-unit p least (t ∷ ts) k = by_place (nat_eq t.place p) refl (value_at-unit p (suc t.place) ts r.others)
  where
    r : Rises least t ts
    r = rises least t ts k

    same : (q p : ℕ) → nat_eq q p ≡ true → p < suc q
    same q p h = grind (arith, nat_tests)

    by_place : (b : Bool) → nat_eq t.place p ≡ b → value_at (unit_point p) ts ≡ coefficient_at ts p → t.coef *ℤ cond b (pos 1) (pos 0) +ℤ value_at (unit_point p) ts ≡ cond b t.coef (coefficient_at ts p)
    by_place true e ih =
        let z = value_at-unit_above p (suc t.place) ts (same t.place p e) r.others in
        let o = *ℤ-one t.coef in omega (arith, ints)
    by_place false e ih = let o = *ℤ-zero t.coef in omega (arith, ints)

-- the coefficient of a sum before it is tightened
coefficient_at-loose : (l : Row) (first : ℤ) (r : Row) (second : ℤ) (out : Row) (s : Summed l first r second out) (p : ℕ) → is_row l ≡ true → is_row r ≡ true
    → coefficient_at s.loose.terms p ≡ first *ℤ coefficient_at l.terms p +ℤ second *ℤ coefficient_at r.terms p
coefficient_at-loose l first r second out s p j k =
    let x = unit_point p in
    let a = row_fit-went (scaled first l.terms) (fit (first *ℤ l.bound)) s.left s.left_is in
    let b = row_fit-went (scaled second r.terms) (fit (second *ℤ r.bound)) s.right s.right_is in
    let c = row_fit-went (merged s.left.terms s.right.terms) (fit (s.left.bound +ℤ s.right.bound)) s.loose s.loose_is in
    let u = value_at-scaled x first l.terms s.left.terms a.0 in
    let v = value_at-scaled x second r.terms s.right.terms b.0 in
    let w = value_at-merged x s.left.terms s.right.terms s.loose.terms c.0 in
    let q = is_row-plus s.left s.right s.loose (is_row-times first l s.left j s.left_is) (is_row-times second r s.right k s.right_is) s.loose_is in
    let e = value_at-unit p 0 s.loose.terms (rises_of s.loose q) in
    let f = ap (λ z. first *ℤ z) (value_at-unit p 0 l.terms (rises_of l j)) in
    let g = ap (λ z. second *ℤ z) (value_at-unit p 0 r.terms (rises_of r k)) in
    omega (arith, ints)

-- a coefficient that is 0 stays so
coefficient_at-tightened : (r : Row) (p : ℕ) → is_row r ≡ true → coefficient_at r.terms p ≡ pos 0 → coefficient_at (tightened r).terms p ≡ pos 0
coefficient_at-tightened r p k z = tightened-cases (λ s. is_row s ≡ true → coefficient_at s.terms p ≡ pos 0) r (λ h j. z) with_terms (is_row-tightened r k)
  where
    no_factor : (g : ℕ) (v : ℤ) → 0 < g → pos g *ℤ v ≡ pos 0 → v ≡ pos 0
    no_factor g (pos zero) h e = refl
    no_factor g (pos (suc n)) h e = absurd (let p = pos-*ℤ-pos g (suc n) in let q : g * suc n ≡ g * n + g = grind arith in omega (arith, ints))
    no_factor g (negsuc n) h e = absurd (let p = pos-*ℤ-negsuc g n in let q : g * suc n ≡ g * n + g = grind arith in omega (arith, ints))

    with_terms : has_no_terms r.terms ≡ false → is_row (divided (pos (divisor_of r.terms)) r) ≡ true → coefficient_at (map (divided_term (pos (divisor_of r.terms))) r.terms) p ≡ pos 0
    with_terms h j =
        let d = divisor_of-row r.terms h (rises_of r k) in
        let v = value_at-divided (unit_point p) (divisor_of r.terms) r.terms d.positive d.divides in
        let a = value_at-unit p 0 r.terms (rises_of r k) in
        let b = value_at-unit p 0 (map (divided_term (pos (divisor_of r.terms))) r.terms) (rises_of (divided (pos (divisor_of r.terms)) r) j) in
        sym b ∙ no_factor (divisor_of r.terms) (value_at (unit_point p) (map (divided_term (pos (divisor_of r.terms))) r.terms)) d.positive (v ∙ a ∙ z)

-- the least multipliers cancel
products_swap : (u v g : ℕ) → u * (g * v) ≡ v * (g * u)
products_swap u v g = grind arith

-- the quotients by the common divisor, taken crosswise, give equal products
quotients : (m n : ℕ) → 0 < m → 0 < n → n / common_divisor (m ∷ n ∷ []) * m ≡ m / common_divisor (n ∷ m ∷ []) * n
quotients m n h k =
    let d = common_divisor-divides (m ∷ n ∷ []) (positive m n h) in
    let e = common_divisor-divides (n ∷ m ∷ []) (positive n m k) in
    let p = le_common_divisor (n ∷ m ∷ []) (common_divisor (m ∷ n ∷ [])) (positive n m k) (d.1.1.0, (d.1.0, tt)) in
    let q = le_common_divisor (m ∷ n ∷ []) (common_divisor (n ∷ m ∷ [])) (positive m n h) (e.1.1.0, (e.1.0, tt)) in
    let same : common_divisor (n ∷ m ∷ []) ≡ common_divisor (m ∷ n ∷ []) = omega arith in
    ap (λ (z : ℕ). n / common_divisor (m ∷ n ∷ []) * z) (sym (mul-div_cancel' (common_divisor (m ∷ n ∷ [])) d.1.0))
    ∙ products_swap (n / common_divisor (m ∷ n ∷ [])) (m / common_divisor (m ∷ n ∷ [])) (common_divisor (m ∷ n ∷ []))
    ∙ ap (λ (z : ℕ). m / common_divisor (m ∷ n ∷ []) * z) (mul-div_cancel' (common_divisor (m ∷ n ∷ [])) d.1.1.0)
    ∙ ap (λ (z : ℕ). m / z * n) (sym same)
  where
    positive : (m n : ℕ) → 0 < m → 0 < sum (m ∷ n ∷ [])
    positive m n h = let s = sum_by-cons (λ x. x) m (n ∷ []) in omega arith

pub factors-cancel : (a b : ℤ) → pos 0 <ℤ a → b <ℤ pos 0 → least_factor a b *ℤ a +ℤ least_factor b a *ℤ b ≡ pos 0
factors-cancel (pos m) (pos n) h k = absurd (omega (arith, ints))
factors-cancel (negsuc m) b h k = absurd (omega (arith, ints))
factors-cancel (pos m) (negsuc n) h k =
    let l : 0 < m = omega (arith, ints) in
    let q = quotients m (suc n) l (omega arith) in
    let u = pos-*ℤ-pos (suc n / common_divisor (m ∷ suc n ∷ [])) m in
    let v = pos-*ℤ-negsuc (m / common_divisor (suc n ∷ m ∷ [])) n in
    omega (arith, ints)

-- the multipliers of a combination cancel its place
pub coefficient_at-combined : (l r : Row) (p : ℕ) (out : Row) → is_row l ≡ true → is_row r ≡ true → pos 0 <ℤ coefficient_at l.terms p → coefficient_at r.terms p <ℤ pos 0
    → row_sum l (first_factor l r p) r (second_factor l r p) ≡ Some out → coefficient_at out.terms p ≡ pos 0
coefficient_at-combined l r p out j k a b h =
    let s = row_sum-went l (first_factor l r p) r (second_factor l r p) out h in
    let q = is_row-plus s.left s.right s.loose (is_row-times (first_factor l r p) l s.left j s.left_is) (is_row-times (second_factor l r p) r s.right k s.right_is) s.loose_is in
    let z = coefficient_at-loose l (first_factor l r p) r (second_factor l r p) out s p j k ∙ factors-cancel (coefficient_at l.terms p) (coefficient_at r.terms p) a b in
    subst (λ (w : Row). coefficient_at w.terms p ≡ pos 0) s.tight_is (coefficient_at-tightened s.loose p q z)

-- a coefficient of a row is in range
pub in_range-coefficient : (least p : ℕ) (ts : List RowTerm) → rises_from least ts ≡ true → in_range (coefficient_at ts p) ≡ true
in_range-coefficient least p [] k = refl
in_range-coefficient least p (t ∷ ts) k = by_place (nat_eq t.place p) (in_range-coefficient (suc t.place) p ts r.others)
  where
    r : Rises least t ts
    r = rises least t ts k

    by_place : (b : Bool) → in_range (coefficient_at ts p) ≡ true → in_range (cond b t.coef (coefficient_at ts p)) ≡ true
    by_place true h = second_of_both _ (in_range t.coef) r.coefficient
    by_place false h = h

pub size_positive : (a : ℤ) → a ≢ pos 0 → 0 < unsigned_abs a
size_positive (pos zero) h = absurd (h refl)
size_positive (pos (suc n)) h = omega arith
size_positive (negsuc n) h = omega arith

pub size_below : (a : ℤ) → in_range a ≡ true → unsigned_abs a < 2 ^ 127
size_below a h = below (unsigned_abs a) h
  where
    below : (n : ℕ) → nat_lt n (2 ^ 127) ≡ true → n < 2 ^ 127
    below n h = grind (arith, nat_tests)

pub quotient_below : (n g : ℕ) → n < 2 ^ 127 → n / g < 2 ^ 127
quotient_below n g h = let d = div-le_self n g in omega arith
