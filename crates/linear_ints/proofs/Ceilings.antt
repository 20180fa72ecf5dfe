use Rattle.std.proofs.Common.{◌≡◌, ℕ, zero, suc, ◌<◌, ◌≤◌, ◌+◌, ◌-◌, ◌*◌, ◌/◌, ◌%◌, ◌^◌, ℤ, pos, negsuc, neg_ℤ, ◌-ℤ◌, ◌*ℤ◌, ◌≤ℤ◌, ◌<ℤ◌, Bool, true, false, cond, refl, sym, ◌∙◌, ap, subst, arith, unsigned_abs, inl, inr}
use Rattle.std.specs.Prelude.{nat_lt, nat_le, int_lt}
use Rattle.std.proofs.lemmas.Int.{ints}
use Rattle.std.proofs.lemmas.Bool.Decides.{nat_tests}
use Rattle.std.proofs.Math.Nat.{div-add-mod', mod-lt, mul-le-mul_left, mul_comm}
use Rattle.lin_rows.proofs.Ring.{mul_neg}
use Rattle.line_rows.proofs.Gap.{over_so}
use Rattle.linear_ints.specs.Ceilings.{is_beyond, taken, IsBound}

one_more : (q d : ℕ) → (q + 1) * d ≡ q * d + d
one_more q d = grind arith

-- the ceiling of a positive fraction

pub next_below : (more less : ℤ) (d g : ℕ) → 0 < d → int_lt less more ≡ true → g ≡ unsigned_abs (more -ℤ less) → is_beyond (more -ℤ less) d ≡ false → (g - 1) / d < 10 ^ 15
next_below more less d g h a e b = below ((g - 1) / d) (over_so (10 ^ 15) more less d g h a e ∙ b)
  where
    below : (q : ℕ) → nat_le (10 ^ 15) q ≡ false → q < 10 ^ 15
    below q h = grind (arith, nat_tests)

positive : (n : ℤ) (d g : ℕ) → 0 < d → pos 0 <ℤ n → g ≡ unsigned_abs n → (g - 1) / d < 10 ^ 15 → IsBound (pos ((g - 1) / d + 1)) n d
positive (negsuc k) d g h p e l = absurd (omega (arith, ints))
positive (pos k) d g h p e l = record { fits = fits ((g - 1) / d) l; above = above; least = inl (above, below) }
  where
    fits : (q : ℕ) → q < 10 ^ 15 → nat_le (q + 1) (10 ^ 15) ≡ true
    fits q l = grind (arith, nat_tests)

    some : 0 < k
    some = omega (arith, ints, p)

    is : (g - 1) / d * d + (g - 1) % d ≡ g - 1
    is = div-add-mod' (g - 1) d

    small : (g - 1) % d < d
    small = mod-lt (g - 1) h

    above : pos k ≤ℤ (pos ((g - 1) / d + 1) *ℤ pos d)
    above = let m = one_more ((g - 1) / d) d in let f : k ≤ ((g - 1) / d + 1) * d = omega (arith, m, is, small, e, some) in omega (arith, ints, f)

    below : ((pos ((g - 1) / d + 1) -ℤ pos 1) *ℤ pos d) <ℤ pos k
    below =
        let f : (g - 1) / d * d < k = omega (arith, is, e, some) in
        let back : pos ((g - 1) / d) ≡ pos ((g - 1) / d + 1) -ℤ pos 1 = omega (arith, ints) in
        let up : (pos ((g - 1) / d) *ℤ pos d) <ℤ pos k = omega (arith, ints, f) in
        subst (λ (z : ℤ). (z *ℤ pos d) <ℤ pos k) back up

-- the ceiling of a fraction that isn't positive

negative : (n : ℤ) (d g : ℕ) → 0 < d → n ≤ℤ pos 0 → g ≡ unsigned_abs n → IsBound (taken (g / d)) n d
negative n d g h p e = by_size (nat_lt (10 ^ 15) (g / d)) refl
  where
    is : g / d * d + g % d ≡ g
    is = div-add-mod' g d

    small : g % d < d
    small = mod-lt g h

    opposite : (n : ℤ) → n ≤ℤ pos 0 → n ≡ neg_ℤ (pos (unsigned_abs n))
    opposite (pos zero) h = refl
    opposite (pos (suc k)) h = absurd (omega (arith, ints))
    opposite (negsuc k) h = refl

    n_is : n ≡ neg_ℤ (pos g)
    n_is = opposite n p ∙ ap (λ k. neg_ℤ (pos k)) (sym e)

    beyond : (q : ℕ) → nat_lt (10 ^ 15) q ≡ true → 10 ^ 15 ≤ q
    beyond q h = grind (arith, nat_tests)

    within : (q : ℕ) → nat_lt (10 ^ 15) q ≡ false → nat_le q (10 ^ 15) ≡ true
    within q h = grind (arith, nat_tests)

    size : (q : ℕ) → unsigned_abs (neg_ℤ (pos q)) ≡ q
    size zero = refl
    size (suc q) = refl

    at_most : (q : ℕ) → q * d ≤ g → n ≤ℤ (neg_ℤ (pos q) *ℤ pos d)
    at_most q l = let m : neg_ℤ (pos q) *ℤ pos d ≡ neg_ℤ (pos (q * d)) = mul_neg (pos q) (pos d) in omega (arith, ints, m, n_is, l)

    by_size : (b : Bool) → nat_lt (10 ^ 15) (g / d) ≡ b → IsBound (cond b (neg_ℤ (pos (10 ^ 15))) (neg_ℤ (pos (g / d)))) n d
    by_size true t =
        let m : d * 10 ^ 15 ≤ d * (g / d) = mul-le-mul_left d (beyond (g / d) t) in
        let c = mul_comm d (g / d) in
        let l : 10 ^ 15 * d ≤ g = omega (arith, m, c, is) in
        record { fits = refl; above = at_most (10 ^ 15) l; least = inr refl }
    by_size false t =
        let above = at_most (g / d) (omega (arith, is)) in
        record { fits = ap (λ k. nat_le k (10 ^ 15)) (size (g / d)) ∙ within (g / d) t; above = above; least = inl (above, below) }
      where
        below : ((neg_ℤ (pos (g / d)) -ℤ pos 1) *ℤ pos d) <ℤ n
        below =
            let f : neg_ℤ (pos (g / d + 1)) ≡ neg_ℤ (pos (g / d)) -ℤ pos 1 = omega (arith, ints) in
            let m : neg_ℤ (pos (g / d + 1)) *ℤ pos d ≡ neg_ℤ (pos ((g / d + 1) * d)) = mul_neg (pos (g / d + 1)) (pos d) in
            let o = one_more (g / d) d in
            let l : g < (g / d + 1) * d = omega (arith, o, is, small) in
            let r : (neg_ℤ (pos (g / d + 1)) *ℤ pos d) <ℤ n = omega (arith, ints, m, n_is, l) in
            subst (λ (z : ℤ). (z *ℤ pos d) <ℤ n) f r

pub bound_up : (more less v : ℤ) (d g : ℕ) → 0 < d → int_lt less more ≡ true → g ≡ unsigned_abs (more -ℤ less) → is_beyond (more -ℤ less) d ≡ false → v ≡ pos ((g - 1) / d + 1) → IsBound v (more -ℤ less) d
bound_up more less v d g h a e b f =
    subst (λ (z : ℤ). IsBound z (more -ℤ less) d) (sym f) (positive (more -ℤ less) d g h (omega (arith, ints, a)) e (next_below more less d g h a e b))

pub bound_down : (more less v : ℤ) (d g : ℕ) → 0 < d → int_lt less more ≡ false → g ≡ unsigned_abs (more -ℤ less) → v ≡ taken (g / d) → IsBound v (more -ℤ less) d
bound_down more less v d g h a e f =
    subst (λ (z : ℤ). IsBound z (more -ℤ less) d) (sym f) (negative (more -ℤ less) d g h (omega (arith, ints, a)) e)
