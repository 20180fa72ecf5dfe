use Prim.Native.Nat.{◌∣◌}
use Rattle.std.proofs.Common.{◌≡◌, ℕ, zero, suc, ◌+◌, ◌*◌, ◌/◌, ◌%◌, ◌<◌, ◌≤◌, ℤ, pos, negsuc, ◌+ℤ◌, ◌*ℤ◌, ◌≤ℤ◌, ◌<ℤ◌, [], ◌∷◌, refl, sym, ◌∙◌, ap, subst, arith}
use Rattle.std.specs.Int.{IsGcd}
use Rattle.std.proofs.lemmas.Int.{ints}
use Rattle.std.proofs.lemmas.List.Sums.{sum_by-cons}
use Rattle.std.proofs.lemmas.Nat.Gcd.{IsGcd-from_zero, IsGcd-from_mod, le_of_dvd}
use Rattle.std.proofs.Math.Nat.{mul-div_cancel', dvd-mul_left, dvd-mul_right, mul-div_cancel_left, div-le_of_le-mul, le_of_mul-le-mul_left, mul-le-mul_left, mul-le-mul_right, mod-lt, mul_assoc, mul_comm}
use Rattle.std.proofs.Math.IntN.{pos-*ℤ-pos, pos-*ℤ-negsuc}
use Rattle.lin_rows.specs.Divisors.{common_divisor}
use Rattle.lin_rows.specs.Cancelling.{least_factor}
use Rattle.lin_rows.proofs.Divisor.{le_common_divisor, positive_divisor}

-- two numbers have a greatest common divisor
gcd_exists : (fuel a b : ℕ) → b ≤ fuel → (g : ℕ) × IsGcd a b g
gcd_exists zero a b h = (a, IsGcd-from_zero a b (omega arith))
gcd_exists (suc fuel) a zero h = (a, IsGcd-from_zero a zero refl)
gcd_exists (suc fuel) a (suc b) h =
    let l : a % suc b < suc b = mod-lt a (omega arith) in
    let r = gcd_exists fuel (suc b) (a % suc b) (omega arith) in
    (r.0, IsGcd-from_mod a (suc b) r.0 r.1)

-- where a product of m and n is a multiple of a number e that m divides, the quotient divides n
cofactor : (m n e : ℕ) → 0 < m → m ∣ e → e ∣ m * n → 0 < e → (m * n) / e ∣ n
cofactor m n e h d k l =
    let p = mul-div_cancel' m d in
    let q = mul-div_cancel' e k in
    let r : m * n ≡ m * (e / m * ((m * n) / e)) = sym q ∙ ap (λ (z : ℕ). z * ((m * n) / e)) (sym p) ∙ mul_assoc m (e / m) ((m * n) / e) in
    let s : n ≡ e / m * ((m * n) / e) = sym (mul-div_cancel_left n h) ∙ ap (λ (z : ℕ). z / m) r ∙ mul-div_cancel_left (e / m * ((m * n) / e)) h in
    subst (λ (z : ℕ). (m * n) / e ∣ z) (sym s) (dvd-mul_left ((m * n) / e) (e / m))

-- no lesser positive number than the crosswise quotient makes a common multiple
quotient_least : (m n u v : ℕ) → 0 < m → 0 < n → 0 < u → u * m ≡ v * n → n / common_divisor (m ∷ n ∷ []) ≤ u
quotient_least m n u v h k l e =
    let d = gcd_exists (m * n) (u * m) (m * n) (omega arith) in
    let by_m : m ∣ d.0 = d.1.2 m (dvd-mul_left m u) (dvd-mul_right m n) in
    let by_n : n ∣ d.0 = d.1.2 n (subst (λ (z : ℕ). n ∣ z) (sym e) (dvd-mul_left n v)) (dvd-mul_left n m) in
    let multiple : 0 < u * m = product_positive u m l h in
    let positive = positive_divisor d.0 (u * m) multiple d.1.0 in
    let of_n : (m * n) / d.0 ∣ n = cofactor m n d.0 h by_m d.1.1 positive in
    let of_m : (m * n) / d.0 ∣ m = subst (λ (z : ℕ). z / d.0 ∣ m) (mul_comm n m) (cofactor n m d.0 k by_n (subst (λ (z : ℕ). d.0 ∣ z) (mul_comm m n) d.1.1) positive) in
    let some = sum_by-cons (λ x. x) m (n ∷ []) in
    let common = le_common_divisor (m ∷ n ∷ []) ((m * n) / d.0) (omega arith) (of_m, (of_n, tt)) in
    let whole = mul-div_cancel' d.0 d.1.1 in
    let less : d.0 ≤ u * m = le_of_dvd multiple d.1.0 in
    let a : d.0 * ((m * n) / d.0) ≤ u * m * ((m * n) / d.0) = mul-le-mul_right ((m * n) / d.0) less in
    let b : u * m * ((m * n) / d.0) ≤ u * m * common_divisor (m ∷ n ∷ []) = mul-le-mul_left (u * m) common in
    let c : u * m * common_divisor (m ∷ n ∷ []) ≡ m * (common_divisor (m ∷ n ∷ []) * u) = products u m (common_divisor (m ∷ n ∷ [])) in
    div-le_of_le-mul (common_divisor (m ∷ n ∷ [])) (le_of_mul-le-mul_left (let f : m * n ≤ m * (common_divisor (m ∷ n ∷ []) * u) = omega arith in f) h)
  where
    products : (u m g : ℕ) → u * m * g ≡ m * (g * u)
    products u m g = grind arith

    product_positive : (u m : ℕ) → 0 < u → 0 < m → 0 < u * m
    product_positive zero m h k = absurd (omega arith)
    product_positive (suc u) zero h k = absurd (omega arith)
    product_positive (suc u) (suc m) h k = let e : suc u * suc m ≡ u * suc m + suc m = grind arith in omega arith

-- the multipliers of a combination are the least positive ones that cancel
pub factors-least : (a b u v : ℤ) → pos 0 <ℤ a → b <ℤ pos 0 → pos 0 <ℤ u → pos 0 <ℤ v → u *ℤ a +ℤ v *ℤ b ≡ pos 0 → (least_factor a b ≤ℤ u) × (least_factor b a ≤ℤ v)
factors-least (pos m) (negsuc n) (pos u) (pos v) h k l o e =
    let p = pos-*ℤ-pos u m in
    let q = pos-*ℤ-negsuc v n in
    let f : u * m ≡ v * suc n = omega (arith, ints) in
    let x = quotient_least m (suc n) u v (omega (arith, ints)) (omega arith) (omega (arith, ints)) f in
    let y = quotient_least (suc n) m v u (omega arith) (omega (arith, ints)) (omega (arith, ints)) (sym f) in
    (omega (arith, ints), omega (arith, ints))
factors-least (negsuc m) b u v h k l o e = absurd (omega (arith, ints))
factors-least (pos m) (pos n) u v h k l o e = absurd (omega (arith, ints))
factors-least (pos m) (negsuc n) (negsuc u) v h k l o e = absurd (omega (arith, ints))
factors-least (pos m) (negsuc n) (pos u) (negsuc v) h k l o e = absurd (omega (arith, ints))
