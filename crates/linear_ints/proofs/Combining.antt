use Rattle.std.proofs.Common.{◌≡◌, ℕ, zero, suc, ◌<◌, ◌*◌, ◌/◌, ℤ, pos, negsuc, ◌+ℤ◌, ◌-ℤ◌, ◌*ℤ◌, ◌≤ℤ◌, ◌<ℤ◌, true, [], ◌∷◌, sym, ◌∙◌, ap, subst, arith, unsigned_abs, Some}
use Rattle.std.proofs.lemmas.Int.{ints}
use Rattle.std.proofs.lemmas.List.Sums.{sum_by-cons}
use Rattle.std.proofs.Math.Nat.{mul-div_cancel'}
use Rattle.std.proofs.Math.IntN.{*ℤ_comm, pos-*ℤ-pos, pos-*ℤ-negsuc}
use Rattle.lin_rows.specs.Numbers.{fit}
use Rattle.lin_rows.specs.Rows.{Row, is_row, Satisfies, value_at, coefficient_at}
use Rattle.lin_rows.specs.Divisors.{common_divisor}
use Rattle.lin_rows.specs.Sums.{row_sum, scaled, merged}
use Rattle.lin_rows.specs.Cancelling.{first_factor, second_factor, least_factor}
use Rattle.lin_rows.proofs.Ring.{add_mul, mul_assoc}
use Rattle.lin_rows.proofs.Points.{fit-is, value_at-scaled, value_at-merged}
use Rattle.lin_rows.proofs.Rounding.{satisfies-of_tightened}
use Rattle.lin_rows.proofs.Divisor.{common_divisor-divides}
use Rattle.lin_rows.proofs.Sums.{row_fit-went, row_sum-went, is_row-times, is_row-plus}
use Rattle.lin_rows.proofs.CancellingLemmas.{factors-cancel}
use Rattle.linear_ints.specs.Fractions.{InOrder}
use Rattle.linear_ints.proofs.Fractions.{le_times, le_of_times, swap_last}

-- a point of a sum of rows satisfies it before it is tightened
pub sum-true : (x : ℕ → ℤ) (l : Row) (first : ℤ) (r : Row) (second : ℤ) (out : Row) → is_row l ≡ true → is_row r ≡ true → row_sum l first r second ≡ Some out → Satisfies x out
    → (first *ℤ value_at x l.terms +ℤ second *ℤ value_at x r.terms) ≤ℤ (first *ℤ l.bound +ℤ second *ℤ r.bound)
sum-true x l first r second out j k h m =
    let s = row_sum-went l first r second out h in
    let a = row_fit-went (scaled first l.terms) (fit (first *ℤ l.bound)) s.left s.left_is in
    let b = row_fit-went (scaled second r.terms) (fit (second *ℤ r.bound)) s.right s.right_is in
    let c = row_fit-went (merged s.left.terms s.right.terms) (fit (s.left.bound +ℤ s.right.bound)) s.loose s.loose_is in
    let u = value_at-scaled x first l.terms s.left.terms a.0 in
    let v = value_at-scaled x second r.terms s.right.terms b.0 in
    let w = value_at-merged x s.left.terms s.right.terms s.loose.terms c.0 in
    let p = fit-is (first *ℤ l.bound) s.left.bound a.1 in
    let q = fit-is (second *ℤ r.bound) s.right.bound b.1 in
    let o = fit-is (s.left.bound +ℤ s.right.bound) s.loose.bound c.1 in
    let row = is_row-plus s.left s.right s.loose (is_row-times first l s.left j s.left_is) (is_row-times second r s.right k s.right_is) s.loose_is in
    let t : value_at x s.loose.terms ≤ℤ s.loose.bound = satisfies-of_tightened x s.loose row (subst (λ (z : Row). Satisfies x z) (sym s.tight_is) m) in
    omega (arith, ints)

-- where u * a = v * c, a sum of u parts of s and v parts of t that isn't negative puts -t / c and s / a in order
parts : (u v a c : ℕ) (s n : ℤ) → 0 < v → pos u *ℤ pos a ≡ pos v *ℤ pos c → (pos v *ℤ n) ≤ℤ (pos u *ℤ s) → (n *ℤ pos a) ≤ℤ (s *ℤ pos c)
parts u v a c s n h e l =
    let m = le_times a (pos v *ℤ n) (pos u *ℤ s) l in
    let left = mul_assoc (pos v) n (pos a) ∙ *ℤ_comm (pos v) (n *ℤ pos a) in
    let right = swap_last (pos u) s (pos a) ∙ ap (λ z. z *ℤ s) e ∙ swap_last (pos v) (pos c) s ∙ mul_assoc (pos v) s (pos c) ∙ *ℤ_comm (pos v) (s *ℤ pos c) in
    le_of_times v (n *ℤ pos a) (s *ℤ pos c) h (omega (arith, ints))

quotient_positive : (m n : ℕ) → 0 < m → 0 < n → 0 < m / common_divisor (n ∷ m ∷ [])
quotient_positive m n h k =
    let s = sum_by-cons (λ x. x) n (m ∷ []) in
    let d = common_divisor-divides (n ∷ m ∷ []) (omega arith) in
    some (common_divisor (n ∷ m ∷ [])) (m / common_divisor (n ∷ m ∷ [])) (mul-div_cancel' (common_divisor (n ∷ m ∷ [])) d.1.1.0)
  where
    some : (g q : ℕ) → g * q ≡ m → 0 < q
    some g zero e = absurd (omega arith)
    some g (suc q) e = omega arith

-- the same with the least multipliers of two coefficients
by_factors : (a b s n : ℤ) → pos 0 <ℤ a → b <ℤ pos 0 → (least_factor b a *ℤ n) ≤ℤ (least_factor a b *ℤ s) → (n *ℤ pos (unsigned_abs a)) ≤ℤ (s *ℤ pos (unsigned_abs b))
by_factors (pos m) (pos k) s n h l o = absurd (omega (arith, ints))
by_factors (negsuc m) b s n h l o = absurd (omega (arith, ints))
by_factors (pos m) (negsuc k) s n h l o =
    let some : 0 < m = omega (arith, ints) in
    let e = factors-cancel (pos m) (negsuc k) h l in
    let v = pos-*ℤ-negsuc (m / common_divisor (suc k ∷ m ∷ [])) k in
    let w = pos-*ℤ-pos (m / common_divisor (suc k ∷ m ∷ [])) (suc k) in
    parts (suc k / common_divisor (m ∷ suc k ∷ [])) (m / common_divisor (suc k ∷ m ∷ [])) m (suc k) s n (quotient_positive m (suc k) some (omega arith)) (omega (arith, ints)) o

-- where the combination of two rows is true at a point, the interval that they leave for its place isn't empty
pub in_order : (x : ℕ → ℤ) (high low out : Row) (place : ℕ) → is_row high ≡ true → is_row low ≡ true → pos 0 <ℤ coefficient_at high.terms place → coefficient_at low.terms place <ℤ pos 0
    → row_sum high (first_factor high low place) low (second_factor high low place) ≡ Some out → Satisfies x out → InOrder x place low high
in_order x high low out place j k a b h m =
    let first = first_factor high low place in
    let second = second_factor high low place in
    let t = sum-true x high first low second out j k h m in
    let p = parted first high.bound (value_at x high.terms) in
    let q = parted second (value_at x low.terms) low.bound in
    by_factors (coefficient_at high.terms place) (coefficient_at low.terms place) (high.bound -ℤ value_at x high.terms) (value_at x low.terms -ℤ low.bound) a b (omega (arith, ints))
  where
    parted : (u s t : ℤ) → u *ℤ (s -ℤ t) ≡ (u *ℤ s) -ℤ (u *ℤ t)
    parted u s t = let e = add_mul u (s -ℤ t) t in let f : (s -ℤ t) +ℤ t ≡ s = omega (arith, ints) in let g = ap (λ z. u *ℤ z) f in omega (arith, ints)
