use Rattle.std.proofs.Common.{◌≡◌, ℕ, ◌+◌, ◌*◌, ◌^◌, ◌≤◌, ℤ, pos, neg_ℤ, ◌+ℤ◌, ◌-ℤ◌, ◌*ℤ◌, ◌≤ℤ◌, true, sym, ◌∙◌, ap, subst, arith, unsigned_abs, ◌⊎◌, inl, inr}
use Rattle.std.specs.Prelude.{nat_lt, nat_le}
use Rattle.std.proofs.lemmas.Int.{ints}
use Rattle.std.proofs.lemmas.Bool.Decides.{nat_tests}
use Rattle.lin_rows.specs.Numbers.{in_range}
use Rattle.lin_rows.proofs.Ring.{add_mul}
use Rattle.lin_rows.proofs.Rounding.{mul_le}
use Rattle.line_rows.specs.Evidence.{in_state}
use Rattle.diff_bounds.specs.Differences.{state_limit}

-- HOW FAR VALUES LIE FROM 0

order : (a b : ℤ) → (a ≤ℤ b) ⊎ ((b +ℤ pos 1) ≤ℤ a)
order a b = grind (arith, ints)

-- one edge further
pub far-step : (n d : ℕ) (u b v : ℤ) → neg_ℤ (pos (d * state_limit)) ≤ℤ (pos (n + 1) *ℤ u) → neg_ℤ (pos state_limit) ≤ℤ (pos (n + 1) *ℤ b) → v ≡ u +ℤ b
    → neg_ℤ (pos ((d + 1) * state_limit)) ≤ℤ (pos (n + 1) *ℤ v)
far-step n d u b v h k e =
    subst (λ (z : ℤ). neg_ℤ (pos ((d + 1) * state_limit)) ≤ℤ z) (sym (ap (λ z. pos (n + 1) *ℤ z) e ∙ add_mul (pos (n + 1)) u b))
    (sum-low d (pos (n + 1) *ℤ u) (pos (n + 1) *ℤ b) h k)
  where
    sum-low : (d : ℕ) (x y : ℤ) → neg_ℤ (pos (d * state_limit)) ≤ℤ x → neg_ℤ (pos state_limit) ≤ℤ y → neg_ℤ (pos ((d + 1) * state_limit)) ≤ℤ (x +ℤ y)
    sum-low d x y h k = omega (arith, ints)

-- not below the range of a state
pub far-low : (n d : ℕ) (v : ℤ) → d ≤ n + 1 → neg_ℤ (pos (d * state_limit)) ≤ℤ (pos (n + 1) *ℤ v) → neg_ℤ (pos state_limit) ≤ℤ v
far-low n d v h k = by_order (order (neg_ℤ (pos state_limit)) v)
  where
    by_order : (neg_ℤ (pos state_limit) ≤ℤ v) ⊎ ((v +ℤ pos 1) ≤ℤ neg_ℤ (pos state_limit)) → neg_ℤ (pos state_limit) ≤ℤ v
    by_order (inl l) = l
    by_order (inr l) =
        let a : v ≤ℤ (neg_ℤ (pos state_limit) -ℤ pos 1) = omega (arith, ints) in
        let m = mul_le (n + 1) v (neg_ℤ (pos state_limit) -ℤ pos 1) a in absurd (omega (arith, ints))

-- a near bound lies in the range of a state
pub near-low : (n : ℕ) (b : ℤ) → neg_ℤ (pos state_limit) ≤ℤ (pos (n + 1) *ℤ b) → neg_ℤ (pos state_limit) ≤ℤ b
near-low n b h = far-low n 1 b (omega arith) (omega (arith, ints))

pub near-high : (n : ℕ) (b : ℤ) → (pos (n + 1) *ℤ b) ≤ℤ pos state_limit → b ≤ℤ pos state_limit
near-high n b h = by_order (order b (pos state_limit))
  where
    by_order : (b ≤ℤ pos state_limit) ⊎ ((pos state_limit +ℤ pos 1) ≤ℤ b) → b ≤ℤ pos state_limit
    by_order (inl l) = l
    by_order (inr l) = let m = mul_le (n + 1) (pos state_limit +ℤ pos 1) b l in absurd (omega (arith, ints))

-- differences of two values
pub difference-size : (a b : ℤ) → neg_ℤ (pos state_limit) ≤ℤ a → a ≤ℤ pos 0 → neg_ℤ (pos state_limit) ≤ℤ b → b ≤ℤ pos 0 → unsigned_abs (a -ℤ b) ≤ state_limit
difference-size a b h k l m = sizes (a -ℤ b) (omega (arith, ints)) (omega (arith, ints))
  where
    sizes : (c : ℤ) → neg_ℤ (pos state_limit) ≤ℤ c → c ≤ℤ pos state_limit → unsigned_abs c ≤ state_limit
    sizes c h k = omega (arith, ints)

pub in_range-size : (c : ℤ) → unsigned_abs c ≤ state_limit → in_range c ≡ true
in_range-size c h = below (unsigned_abs c) h
  where
    below : (n : ℕ) → n ≤ state_limit → nat_lt n (2 ^ 127) ≡ true
    below n h = grind (arith, nat_tests)

pub in_state-size : (c : ℤ) → unsigned_abs c ≤ state_limit → in_state c ≡ true
in_state-size c h = within (unsigned_abs c) h
  where
    within : (n : ℕ) → n ≤ state_limit → nat_le n (10 ^ 15) ≡ true
    within n h = grind (arith, nat_tests)
