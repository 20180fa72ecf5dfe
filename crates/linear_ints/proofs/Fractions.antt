use Rattle.std.proofs.Common.{◌≡◌, ℕ, ◌<◌, ℤ, pos, ◌+ℤ◌, ◌*ℤ◌, ◌≤ℤ◌, ◌<ℤ◌, sym, ◌∙◌, ap, arith, ◌⊎◌, inl, inr}
use Rattle.std.proofs.lemmas.Int.{ints}
use Rattle.std.proofs.Math.IntN.{*ℤ_comm, *ℤ-one}
use Rattle.lin_rows.proofs.Ring.{mul_add, mul_assoc}
use Rattle.lin_rows.proofs.Rounding.{mul_le, floor_up, floor_down}
use Rattle.linear_ints.specs.Fractions.{floor_of, Between}

pub order : (a b : ℤ) → (a ≤ℤ b) ⊎ ((b +ℤ pos 1) ≤ℤ a)
order a b = grind (arith, ints)

-- products by a natural number

pub le_times : (d : ℕ) (a b : ℤ) → a ≤ℤ b → (a *ℤ pos d) ≤ℤ (b *ℤ pos d)
le_times d a b h = let m = mul_le d a b h in let p = *ℤ_comm (pos d) a in let q = *ℤ_comm (pos d) b in omega (arith, ints)

pub one_more : (a : ℤ) (d : ℕ) → (a +ℤ pos 1) *ℤ pos d ≡ (a *ℤ pos d) +ℤ pos d
one_more a d = let e = mul_add a (pos 1) (pos d) in let f = *ℤ_comm (pos 1) (pos d) in let g = *ℤ-one (pos d) in omega (arith, ints)

pub lt_times : (d : ℕ) (a b : ℤ) → 0 < d → a <ℤ b → (a *ℤ pos d) <ℤ (b *ℤ pos d)
lt_times d a b h l = let m = le_times d (a +ℤ pos 1) b (omega (arith, ints)) in let e = one_more a d in omega (arith, ints)

pub le_of_times : (d : ℕ) (a b : ℤ) → 0 < d → (a *ℤ pos d) ≤ℤ (b *ℤ pos d) → a ≤ℤ b
le_of_times d a b h l = elim (order a b) [
  | inl k ↦ k
  | inr k ↦ absurd (let m = lt_times d b a h (omega (arith, ints)) in omega (arith, ints))
]

pub lt_of_times : (d : ℕ) (a b : ℤ) → 0 < d → (a *ℤ pos d) <ℤ (b *ℤ pos d) → a <ℤ b
lt_of_times d a b h l = elim (order b a) [
  | inl k ↦ absurd (let m = le_times d b a k in omega (arith, ints))
  | inr k ↦ omega (arith, ints)
]

pub swap_last : (a b c : ℤ) → (a *ℤ b) *ℤ c ≡ (a *ℤ c) *ℤ b
swap_last a b c = mul_assoc a b c ∙ ap (λ z. a *ℤ z) (*ℤ_comm b c) ∙ sym (mul_assoc a c b)

-- the floor of a fraction

pub floor-low : (m : ℤ) (e : ℕ) → 0 < e → (floor_of m e *ℤ pos e) ≤ℤ m
floor-low m e h = let u = floor_up e m (floor_of m e) h (omega (arith, ints)) in let c = *ℤ_comm (pos e) (floor_of m e) in omega (arith, ints)

pub floor-high : (m : ℤ) (e : ℕ) → 0 < e → m <ℤ ((floor_of m e +ℤ pos 1) *ℤ pos e)
floor-high m e h = elim (order ((floor_of m e +ℤ pos 1) *ℤ pos e) m) [
  | inl k ↦ absurd (
      let c = *ℤ_comm (pos e) (floor_of m e +ℤ pos 1) in
      let d = floor_down e m (floor_of m e +ℤ pos 1) h (omega (arith, ints)) in omega (arith, ints))
  | inr k ↦ omega (arith, ints)
]

-- the floor of the greater fraction lies between the two, or both lie strictly between it and the next whole number
pub between : (n m : ℤ) (d e : ℕ) → 0 < d → 0 < e → (n *ℤ pos e) ≤ℤ (m *ℤ pos d) → Between n d m e
between n m d e h k l = by_order (order n (floor_of m e *ℤ pos d))
  where
    low : (floor_of m e *ℤ pos e) ≤ℤ m
    low = floor-low m e k

    high : m <ℤ ((floor_of m e +ℤ pos 1) *ℤ pos e)
    high = floor-high m e k

    by_order : (n ≤ℤ (floor_of m e *ℤ pos d)) ⊎ (((floor_of m e *ℤ pos d) +ℤ pos 1) ≤ℤ n) → Between n d m e
    by_order (inl o) = inl (o, low)
    by_order (inr o) = inr ((omega (arith, ints), below), (above, high))
      where
        -- n * e ≤ m * d < (f + 1) * e * d
        below : n <ℤ ((floor_of m e +ℤ pos 1) *ℤ pos d)
        below =
            let u = lt_times d m ((floor_of m e +ℤ pos 1) *ℤ pos e) h high in
            let s = swap_last (floor_of m e +ℤ pos 1) (pos e) (pos d) in
            lt_of_times e n ((floor_of m e +ℤ pos 1) *ℤ pos d) k (omega (arith, ints))

        -- f * d * e < n * e ≤ m * d
        above : (floor_of m e *ℤ pos e) <ℤ m
        above =
            let u = lt_times e (floor_of m e *ℤ pos d) n k (omega (arith, ints)) in
            let s = swap_last (floor_of m e) (pos d) (pos e) in
            lt_of_times d (floor_of m e *ℤ pos e) m h (omega (arith, ints))
