-- The bounds that the rows of a side of a place give. It mirrors src/bounds.
use Rattle.std.specs.Prelude.{◌≡◌, ℕ, ◌<◌, ℤ, pos, neg_ℤ, ◌-ℤ◌, ◌≤ℤ◌, ◌^◌, Bool, true, List, length, Some, ◌⊎◌}
use Rattle.lin_rows.specs.Rows.{Row, point_of}
use Rattle.proof_lines.specs.Numbers.{stands_in}
use Rattle.line_rows.specs.Steps.{row_at}
use Rattle.line_rows.specs.Splits.{rest_at}
use Rattle.linear_ints.specs.Fractions.{size}
use Rattle.linear_ints.specs.Ceilings.{IsBound}
use Rattle.elimination.specs.Sides.{is_on}

-- with values put in, a lower row says that the place is at least `bound`, an upper one that it is at most `-bound`
pub record IsBoundAt (values : List ℤ) (place : ℕ) (r : Row) (bound : ℤ) : Type 0 where
  pub rest : ℤ
  pub rest_is : rest_at (point_of values) r ≡ Some rest
  pub bound_is : IsBound bound (rest -ℤ r.bound) (size r place)

-- a held row of the side gives the bound
pub record Attains (upper : Bool) (before : List ℕ) (place : ℕ) (held : List Row) (values : List ℤ)
    (row : ℕ) (bound : ℤ) : Type 0 where
  pub below : row < length held
  pub on : is_on upper before place (row_at held row) ≡ true
  pub bound_at : IsBoundAt values place (row_at held row) bound

-- the greatest bound of the rows of a side whose numbers are listed: that of a row, or the least of a state
pub record IsGreatestOf (upper : Bool) (before : List ℕ) (place : ℕ) (held : List Row)
    (values : List ℤ) (named : List ℕ) (row : ℕ) (bound : ℤ) : Type 0 where
  pub attained : (bound ≡ neg_ℤ (pos (10 ^ 15))) ⊎ Attains upper before place held values row bound
  pub greatest : (i : ℕ) → i < length held → stands_in named i ≡ true
      → is_on upper before place (row_at held i) ≡ true
      → (b : ℤ) × IsBoundAt values place (row_at held i) b × (b ≤ℤ bound)

-- the greatest bound of the rows of a side from some held rows: that of a row, or the least of a state
pub record IsGreatest (upper : Bool) (before : List ℕ) (place : ℕ) (held : List Row)
    (values : List ℤ) (n : ℕ) (row : ℕ) (bound : ℤ) : Type 0 where
  pub attained : (bound ≡ neg_ℤ (pos (10 ^ 15))) ⊎ Attains upper before place held values row bound
  pub greatest : (i : ℕ) → i < n → is_on upper before place (row_at held i) ≡ true
      → (b : ℤ) × IsBoundAt values place (row_at held i) b × (b ≤ℤ bound)
