-- The upper and the lower rows of a place. It mirrors src/sides.
use Rattle.std.specs.Prelude.{◌≡◌, ℕ, ◌<◌, Bool, true, cond, ◌&&◌, nat_lt, List, length, slice_index_or}
use Rattle.lin_rows.specs.Rows.{Row, coefficient_at}
use Rattle.line_rows.specs.Steps.{row_at, is_positive, is_negative}
use Rattle.theory_api.specs.Ends.{names_none}

-- THE SIDES OF A PLACE: its upper rows, whose coefficient is positive, and its lower rows.

-- a row names no place before, and its coefficient at the place has the side's sign
abbrev pub is_on : Bool → List ℕ → ℕ → Row → Bool
is_on upper before place r =
    cond upper (is_positive (coefficient_at r.terms place))
    (is_negative (coefficient_at r.terms place))
    && names_none before r

-- a number is one of a row on a side of a place
abbrev pub is_on_at : Bool → List ℕ → ℕ → List Row → ℕ → Bool
is_on_at upper before place held i =
    nat_lt i (length held) && is_on upper before place (row_at held i)

-- the numbers of those of the first n held rows that are on one side
pub record IsSide (upper : Bool) (before : List ℕ) (place : ℕ) (held : List Row) (n : ℕ)
    (numbers : List ℕ) : Type 0 where
  pub sound : (a : ℕ) → a < length numbers
      → (slice_index_or numbers a 0 < n) × (is_on upper before place
      (row_at held (slice_index_or numbers a 0)) ≡ true)
  pub complete : (i : ℕ) → i < n → is_on upper before place (row_at held i) ≡ true
      → (a : ℕ) × (a < length numbers) × (slice_index_or numbers a 0 ≡ i)
