-- The lowest and the highest value that the rows of a place allow it, and the number nearest to 0 between them.
use Rattle.std.specs.Prelude.{◌≡◌, ℕ, ◌<◌, ◌^◌, length, ℤ, pos, neg_ℤ, ◌-ℤ◌, ◌<ℤ◌, int_lt, true, cond, List, ◌⊎◌}
use Rattle.lin_rows.specs.Rows.{Row, is_row, value_at, coefficient_at}
use Rattle.line_rows.specs.Steps.{row_at}
use Rattle.theory_api.specs.Chosen.{Choice, chosen_point}
use Rattle.linear_ints.specs.Fractions.{size}
use Rattle.linear_ints.specs.Points.{is_filled_but}
use Rattle.linear_ints.specs.Ceilings.{IsBound}

-- the number nearest to 0 from `low` to `high`
abbrev pub nearest : ℤ → ℤ → ℤ
nearest low high = cond (int_lt (pos 0) low) low (cond (int_lt high (pos 0)) high (pos 0))

-- with the earlier values put in, a held row says that the place is at least `bound`, or where it is an upper row at most `-bound`
pub record Says (held : List Row) (earlier : List Choice) (place : ℕ) (i : ℕ)
    (bound : ℤ) : Type 0 where
  pub below : i < length held
  pub row : is_row (row_at held i) ≡ true
  pub filled : is_filled_but earlier place (row_at held i) ≡ true
  pub bound_is : IsBound bound (value_at (chosen_point earlier) (row_at held i).terms -ℤ
      (row_at held i).bound) (size (row_at held i) place)

-- the lowest value that the lower rows of a place allow: that of a lower row, or the least of a state
abbrev pub Lowest : List Row → List Choice → ℕ → ℤ → Type 0
Lowest held earlier place low =
    (low ≡ neg_ℤ (pos (10 ^ 15)))
    ⊎ ((i : ℕ) × (coefficient_at (row_at held i).terms place <ℤ pos 0)
    × Says held earlier place i low)

-- the highest value that the upper rows of a place allow: that of an upper row, or the greatest of a state
abbrev pub Highest : List Row → List Choice → ℕ → ℤ → Type 0
Highest held earlier place high =
    (high ≡ pos (10 ^ 15))
    ⊎ ((j : ℕ) × (pos 0 <ℤ coefficient_at (row_at held j).terms place)
    × Says held earlier place j (neg_ℤ high))
