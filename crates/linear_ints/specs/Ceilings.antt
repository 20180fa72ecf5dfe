-- The least whole number in the range of a state that is at least a fraction.
use Rattle.std.specs.Prelude.{◌≡◌, ℕ, ◌^◌, nat_lt, ℤ, pos, neg_ℤ, ◌*ℤ◌, ◌≤ℤ◌, int_lt, Bool, true, cond, ◌⊎◌}
use Rattle.line_rows.specs.Evidence.{in_state}
use Rattle.linear_ints.specs.Driven.{IsCeiling}

-- n / d is above the range of a state
abbrev pub is_beyond : ℤ → ℕ → Bool
is_beyond n d = int_lt (pos (10 ^ 15) *ℤ pos d) n

-- a number that is taken away, but no more than the range of a state
abbrev pub taken : ℕ → ℤ
taken whole = cond (nat_lt (10 ^ 15) whole) (neg_ℤ (pos (10 ^ 15))) (neg_ℤ (pos whole))

-- a number in the range of a state that is at least n / d, and the least such
pub record IsBound (v n : ℤ) (d : ℕ) : Type 0 where
  pub fits : in_state v ≡ true
  pub above : n ≤ℤ (v *ℤ pos d)
  pub least : IsCeiling v n d ⊎ (v ≡ neg_ℤ (pos (10 ^ 15)))
