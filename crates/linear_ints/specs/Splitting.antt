-- Two rows that meet at a place: a whole number satisfies both, or they leave the gap of a split.
use Rattle.std.specs.Prelude.{◌≡◌, ℕ, ℤ, pos, ◌-ℤ◌, ◌<ℤ◌, true, List, [], ◌∷◌, Some, Ok, ◌⊎◌}
use Rattle.lin_rows.specs.Rows.{Row, is_row, coefficient_at}
use Rattle.lin_rows.specs.Sums.{row_sum}
use Rattle.lin_rows.specs.Cancelling.{first_factor, second_factor}
use Rattle.proof_lines.specs.declared.line.RowStep.{RowStep}
use Rattle.proof_lines.specs.Problems.{row_true}
use Rattle.line_rows.specs.Splits.{rest_at, splits}
use Rattle.linear_ints.specs.Fractions.{floor_of, size}
use Rattle.linear_ints.specs.Points.{with_value, values_of}

-- a lower row and an upper one at a place, whose rests at a point are in range, and whose combination is true there
pub record Meet (x : ℕ → ℤ) (place : ℕ) (low : Row) (high : Row) : Type 0 where
  pub low_row : is_row low ≡ true
  pub high_row : is_row high ≡ true
  pub low_sign : coefficient_at low.terms place <ℤ pos 0
  pub high_sign : pos 0 <ℤ coefficient_at high.terms place
  pub no_value : x place ≡ pos 0
  pub low_rest : ℤ
  pub high_rest : ℤ
  pub low_rest_is : rest_at x low ≡ Some low_rest
  pub high_rest_is : rest_at x high ≡ Some high_rest
  pub sum : Row
  pub sum_is : row_sum high (first_factor high low place) low (second_factor high low place)
      ≡ Some sum
  pub sum_true : row_true x sum ≡ true

-- the greatest whole number that the upper row allows
abbrev pub highest : {x : ℕ → ℤ} {place : ℕ} {low high : Row} → Meet x place low high → ℤ
highest {x} {place} {low} {high} m = floor_of (high.bound -ℤ m.high_rest) (size high place)

-- that number satisfies both rows, or the kernel's rule for a split is kept there
abbrev pub WholeOrSplit : {x : ℕ → ℤ} {place : ℕ} {low high : Row} → Meet x place low high
    → List Row → List RowStep → ℕ → ℕ → Type 0
WholeOrSplit {x} {place} {low} {high} m given steps i j =
    ((row_true (with_value x place (highest m)) low ≡ true)
    × (row_true (with_value x place (highest m)) high ≡ true))
    ⊎ (splits given steps place (highest m) i j (values_of x place (low ∷ high ∷ [])) ≡ Ok tt)
