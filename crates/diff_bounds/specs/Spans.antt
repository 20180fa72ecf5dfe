-- Rows that say that one place is at most so far above another.
use Rattle.std.specs.Prelude.{◌≡◌, ℕ, nat_lt, ℤ, pos, ◌-ℤ◌, true, cond}
use Rattle.lin_rows.specs.Rows.{Row, is_row, value_at}

-- PLACES. Besides the places of the integer names, which lie below `ints`, `ints` itself stands for the number 0.

-- the value of a place at a point
abbrev pub place_value : ℕ → (ℕ → ℤ) → ℕ → ℤ
place_value ints x p = cond (nat_lt p ints) (x p) (pos 0)

-- a row says that one place is at most so far above another: at every point its terms are worth the difference of the two
pub record Spans (ints : ℕ) (r : Row) (from to : ℕ) (bound : ℤ) : Type 0 where
  pub row : is_row r ≡ true
  pub value : (x : ℕ → ℤ) → value_at x r.terms ≡ place_value ints x to -ℤ place_value ints x from
  pub bound_is : r.bound ≡ bound
