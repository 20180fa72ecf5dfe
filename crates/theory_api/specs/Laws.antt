-- What each answer of a solver of rows promises.
use Rattle.std.specs.Prelude.{◌≡◌, ℕ, ◌+◌, ◌<◌, nat_lt, ℤ, Bool, true, false, ◌&&◌, ◌||◌, List, [], ◌∷◌, length, map, Option, Some, None, Ok}
use Rattle.std.specs.List.{list_any, list_all}
use Rattle.lin_rows.specs.Rows.{Row, negated, places_below, point_of}
use Rattle.proof_lines.specs.declared.line.RowStep.{RowStep}
use Rattle.proof_lines.specs.declared.line.RangeWhat.{RangeWhat}
use Rattle.proof_lines.specs.declared.line.RangeWhat.TheVariants.{Product, Value, Sum}
use Rattle.proof_lines.specs.Problems.{row_true}
use Rattle.line_rows.specs.Steps.{row_at, held_rows, refutes}
use Rattle.line_rows.specs.Splits.{splits, other_names, at_most}
use Rattle.line_rows.specs.Evidence.{same_row, in_state, row_limit, rows_shown, range_shown}
use Rattle.theory_api.specs.declared.answer.TheoryAnswer.{TheoryAnswer}
use Rattle.theory_api.specs.declared.answer.TheoryAnswer.TheVariants.{Model, Conflict, Split, Rows, Range, Memory}
use Rattle.theory_api.specs.Chosen.{AreChosen}
use Rattle.theory_api.specs.Elimination.{AreEliminations}

-- THE LAWS OF A SOLVER OF ROWS. It is given rows, and says of them one of five things, each with its certificate.

-- the places of all rows are below the number of integer names
abbrev pub all_below : ℕ → List Row → Bool
all_below ints rows = list_all (places_below ints) rows

-- the given rows with some numbers
abbrev pub rows_at : List Row → List ℕ → List Row
rows_at rows used = map (row_at rows) used

-- there is a row among those used
abbrev pub is_some_row : List ℕ → Bool
is_some_row [] = false
is_some_row (u ∷ used) = true

-- some rows are used, and all of them are given
abbrev pub are_given : List Row → List ℕ → Bool
are_given rows used = is_some_row used && list_all (λ u. nat_lt u (length rows)) used

-- a point satisfies all rows
abbrev pub all_satisfied : (ℕ → ℤ) → List Row → Bool
all_satisfied x rows = list_all (row_true x) rows

-- no whole numbers satisfy all rows
abbrev pub AreUnsatisfiable : List Row → Type 0
AreUnsatisfiable rows = (x : ℕ → ℤ) → all_satisfied x rows ≡ true → ⊥

-- MODEL: one number in the range of a state for each integer name, and they satisfy every given row.
pub record IsModel (ints : ℕ) (rows : List Row) (values : List ℤ) : Type 0 where
  pub whole : length values ≡ ints
  pub in_range : list_all in_state values ≡ true
  pub satisfies : all_satisfied (point_of values) rows ≡ true

-- CONFLICT: a Farkas line over the used rows keeps the proof kernel's rule.
pub record IsConflict (rows : List Row) (used : List ℕ) (steps : List RowStep) : Type 0 where
  pub given : are_given rows used ≡ true
  pub refuted : refutes (rows_at rows used) steps ≡ true

-- a row is the one that an optional row is
abbrev pub is_that : Option Row → Row → Bool
is_that (Some q) r = same_row r q
is_that None r = false

-- a given row says already `place <= at` or the opposite
abbrev pub settles : ℕ → ℤ → Row → Bool
settles place at r = same_row r (at_most place at) || is_that (negated (at_most place at)) r

-- SPLIT: the rows leave a gap between `at` and `at + 1` for a name, by the proof kernel's rule, and no given row settles it.
pub record IsSplit (ints : ℕ) (rows : List Row) (place : ℕ) (at : ℤ) (used : List ℕ)
    (steps : List RowStep) (low : ℕ) (high : ℕ) (values : List ℤ) : Type 0 where
  pub place_below : place < ints
  pub given : are_given rows used ≡ true
  pub unsettled : list_any (settles place at) rows ≡ false
  pub cause : splits (rows_at rows used) steps place at low high values ≡ Ok tt
  pub held : List Row
  pub held_is : held_rows (rows_at rows used) steps ≡ Ok held
  pub chosen : AreChosen held (other_names place (row_at held low ∷ row_at held high ∷ [])) values
  pub eliminated : AreEliminations held steps None

-- ROWS: as many different rows as are too many, by elimination.
pub record IsTooMany (rows : List Row) (used : List ℕ) (steps : List RowStep) : Type 0 where
  pub given : are_given rows used ≡ true
  pub count : length used + length steps ≡ row_limit
  pub shown : rows_shown steps (held_rows (rows_at rows used) steps) ≡ true
  pub held : List Row
  pub held_is : held_rows (rows_at rows used) steps ≡ Ok held
  pub eliminated : AreEliminations held steps None

-- the values of a number beyond the range are chosen; a product has none
abbrev pub HasChosen : List Row → RangeWhat → Type 0
HasChosen held (Product left right place) = Unit {0}
HasChosen held (Value i place values) =
    AreChosen held (other_names place (row_at held i ∷ [])) values
HasChosen held (Sum i place values) = AreChosen held (other_names place (row_at held i ∷ [])) values

-- RANGE: a number beyond its range, met by elimination with chosen values.
pub record IsBeyond (rows : List Row) (used : List ℕ) (steps : List RowStep)
    (what : RangeWhat) : Type 0 where
  pub given : are_given rows used ≡ true
  pub shown : range_shown steps what (held_rows (rows_at rows used) steps) ≡ true
  pub held : List Row
  pub held_is : held_rows (rows_at rows used) steps ≡ Ok held
  pub chosen : HasChosen held what
  pub eliminated : AreEliminations held steps (Some what)

-- what an answer promises. Split comes only from a solver that may split, Rows and Range only from one that may stop; want of
-- memory may come at any time
abbrev pub IsAnswer : Bool → Bool → ℕ → List Row → TheoryAnswer → Type 0
IsAnswer split stop ints rows (Model values) = IsModel ints rows values
IsAnswer split stop ints rows (Conflict used steps) = IsConflict rows used steps
IsAnswer split stop ints rows (Split place at used steps low high values) =
    (split ≡ true) × IsSplit ints rows place at used steps low high values
IsAnswer split stop ints rows (Rows used steps) = (stop ≡ true) × IsTooMany rows used steps
IsAnswer split stop ints rows (Range used steps what) =
    (stop ≡ true) × IsBeyond rows used steps what
IsAnswer split stop ints rows Memory = Unit {0}
