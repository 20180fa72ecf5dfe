use Rattle.std.proofs.Common.{◌≡◌, ℕ, zero, suc, ◌<◌, ◌≤◌, ◌+◌, ◌*◌, length, ℤ, pos, negsuc, ◌+ℤ◌, ◌*ℤ◌, ◌<ℤ◌, Bool, true, false, cond, List, [], ◌∷◌, map, refl, sym, ◌∙◌, ap, subst, arith, Some, ◌⊎◌, inl, inr}
use Rattle.std.proofs.lemmas.Int.{ints}
use Rattle.std.proofs.Math.IntN.{pos-*ℤ-pos, pos-*ℤ-negsuc, *ℤ-zero}
use Rattle.lin_rows.specs.declared.combining.Combined.{Combined}
use Rattle.lin_rows.specs.Numbers.{fit, is_zero}
use Rattle.lin_rows.specs.Rows.{Row, is_row, has_no_terms, coefficient_at, value_at}
use Rattle.lin_rows.specs.Divisors.{divisor_of, divided_term, divided, tightened}
use Rattle.lin_rows.specs.Sums.{row_sum, scaled, merged}
use Rattle.lin_rows.specs.Cancelling.{first_factor, second_factor, combined}
use Rattle.lin_rows.proofs.Points.{is_zero-is, option_map-went, value_at-scaled, value_at-merged}
use Rattle.lin_rows.proofs.Kept.{rises_of}
use Rattle.lin_rows.proofs.Rounding.{divisor_of-row, value_at-divided, is_row-tightened, tightened-cases}
use Rattle.lin_rows.proofs.Sums.{row_fit-went, row_sum-went, is_row-times, is_row-plus}
use Rattle.lin_rows.proofs.CancellingLemmas.{unit_point, value_at-unit, coefficient_at-combined}
use Rattle.theory_api.specs.Elimination.{stage}
use Rattle.elimination.specs.Pairs.{place_at}

-- STAGES

-- a row names no place before its stage
pub stage-zero : (order : List ℕ) (k : ℕ) (r : Row) → k < stage order r → coefficient_at r.terms (place_at order k) ≡ pos 0
stage-zero [] k r h = absurd (omega arith)
stage-zero (p ∷ order) k r h = by_zero (is_zero (coefficient_at r.terms p)) refl k h (λ m l. stage-zero order m r l)
  where
    by_zero : (b : Bool) → is_zero (coefficient_at r.terms p) ≡ b → (k : ℕ) → k < cond b (1 + stage order r) 0 → ((m : ℕ) → m < stage order r → coefficient_at r.terms (place_at order m) ≡ pos 0)
        → coefficient_at r.terms (place_at (p ∷ order) k) ≡ pos 0
    by_zero true e zero l f = is_zero-is (coefficient_at r.terms p) e
    by_zero true e (suc k) l f = f k (omega arith)
    by_zero false e k l f = absurd (omega arith)

-- a row that names no place up to a stage stands behind it
pub stage-behind : (order : List ℕ) (k : ℕ) (r : Row) → k < length order → ((m : ℕ) → m ≤ k → coefficient_at r.terms (place_at order m) ≡ pos 0) → k < stage order r
stage-behind [] k r l f = absurd (omega arith)
stage-behind (p ∷ order) zero r l f = let e = ap (λ c. cond (is_zero c) (1 + stage order r) 0) (f 0 (omega arith)) in omega arith
stage-behind (p ∷ order) (suc k) r l f =
    let e = ap (λ c. cond (is_zero c) (1 + stage order r) 0) (f 0 (omega arith)) in
    let ih = stage-behind order k r (omega arith) (λ m h. f (suc m) (omega arith)) in omega arith

-- COEFFICIENTS THAT ARE 0 IN TWO ROWS ARE 0 IN THEIR SUM

pub zero-tightened : (r : Row) (p : ℕ) → is_row r ≡ true → coefficient_at r.terms p ≡ pos 0 → coefficient_at (tightened r).terms p ≡ pos 0
zero-tightened r p k z = tightened-cases (λ s. is_row s ≡ true → coefficient_at s.terms p ≡ pos 0) r (λ h j. z) with_terms (is_row-tightened r k)
  where
    no_factor : (g : ℕ) (v : ℤ) → 0 < g → pos g *ℤ v ≡ pos 0 → v ≡ pos 0
    no_factor g (pos zero) h e = refl
    no_factor g (pos (suc n)) h e = absurd (let p = pos-*ℤ-pos g (suc n) in let q : g * suc n ≡ g * n + g = grind arith in omega (arith, ints))
    no_factor g (negsuc n) h e = absurd (let p = pos-*ℤ-negsuc g n in let q : g * suc n ≡ g * n + g = grind arith in omega (arith, ints))

    with_terms : has_no_terms r.terms ≡ false → is_row (divided (pos (divisor_of r.terms)) r) ≡ true → coefficient_at (map (divided_term (pos (divisor_of r.terms))) r.terms) p ≡ pos 0
    with_terms h j =
        let d = divisor_of-row r.terms h (rises_of r k) in
        let v = value_at-divided (unit_point p) (divisor_of r.terms) r.terms d.positive d.divides in
        let a = value_at-unit p 0 r.terms (rises_of r k) in
        let b = value_at-unit p 0 (map (divided_term (pos (divisor_of r.terms))) r.terms) (rises_of (divided (pos (divisor_of r.terms)) r) j) in
        sym b ∙ no_factor (divisor_of r.terms) (value_at (unit_point p) (map (divided_term (pos (divisor_of r.terms))) r.terms)) d.positive (v ∙ a ∙ z)

pub zero-sum : (l : Row) (first : ℤ) (r : Row) (second : ℤ) (out : Row) (p : ℕ) → is_row l ≡ true → is_row r ≡ true → row_sum l first r second ≡ Some out
    → coefficient_at l.terms p ≡ pos 0 → coefficient_at r.terms p ≡ pos 0 → coefficient_at out.terms p ≡ pos 0
zero-sum l first r second out p j k h y z =
    let s = row_sum-went l first r second out h in
    let x = unit_point p in
    let a = row_fit-went (scaled first l.terms) (fit (first *ℤ l.bound)) s.left s.left_is in
    let b = row_fit-went (scaled second r.terms) (fit (second *ℤ r.bound)) s.right s.right_is in
    let c = row_fit-went (merged s.left.terms s.right.terms) (fit (s.left.bound +ℤ s.right.bound)) s.loose s.loose_is in
    let u = value_at-scaled x first l.terms s.left.terms a.0 ∙ ap (λ v. first *ℤ v) (value_at-unit p 0 l.terms (rises_of l j) ∙ y) ∙ *ℤ-zero first in
    let v = value_at-scaled x second r.terms s.right.terms b.0 ∙ ap (λ v. second *ℤ v) (value_at-unit p 0 r.terms (rises_of r k) ∙ z) ∙ *ℤ-zero second in
    let w = value_at-merged x s.left.terms s.right.terms s.loose.terms c.0 in
    let q = is_row-plus s.left s.right s.loose (is_row-times first l s.left j s.left_is) (is_row-times second r s.right k s.right_is) s.loose_is in
    let e = value_at-unit p 0 s.loose.terms (rises_of s.loose q) in
    let loose : coefficient_at s.loose.terms p ≡ pos 0 = omega (arith, ints, u, v, w, e) in
    subst (λ (t : Row). coefficient_at t.terms p ≡ pos 0) s.tight_is (zero-tightened s.loose p q loose)

-- the combination of two rows at a stage stands behind it
pub combined-behind : (order : List ℕ) (k : ℕ) (high low : Row) (c : Combined) → is_row high ≡ true → is_row low ≡ true → k < length order
    → stage order high ≡ k → stage order low ≡ k → pos 0 <ℤ coefficient_at high.terms (place_at order k) → coefficient_at low.terms (place_at order k) <ℤ pos 0
    → combined high low (place_at order k) ≡ Some c → k < stage order c.row
combined-behind order k high low c j i l s t a b e = stage-behind order k c.row l (λ m n. by_order m (order_of m k n))
  where
    sum_is : row_sum high (first_factor high low (place_at order k)) low (second_factor high low (place_at order k)) ≡ Some c.row
    sum_is =
        let w = option_map-went (λ sum. record { row = sum; first = first_factor high low (place_at order k); second = second_factor high low (place_at order k) }) (row_sum high (first_factor high low (place_at order k)) low (second_factor high low (place_at order k))) c e in
        w.1 ∙ ap (λ (d : Combined). Some d.row) w.2

    order_of : (m k : ℕ) → m ≤ k → (m < k) ⊎ (m ≡ k)
    order_of m k h = grind arith

    by_order : (m : ℕ) → (m < k) ⊎ (m ≡ k) → coefficient_at c.row.terms (place_at order m) ≡ pos 0
    by_order m (inl h) =
        zero-sum high (first_factor high low (place_at order k)) low (second_factor high low (place_at order k)) c.row (place_at order m) j i sum_is
        (stage-zero order m high (omega arith)) (stage-zero order m low (omega arith))
    by_order m (inr h) =
        ap (λ n. coefficient_at c.row.terms (place_at order n)) h ∙ coefficient_at-combined high low (place_at order k) c.row j i a b sum_is
