-- The tableau: the rows that are held while places are eliminated, and what holds of them.
use Rattle.std.specs.Prelude.{◌≡◌, ℕ, ◌<◌, nat_lt, ◌||◌, true, false, pos, ◌<ℤ◌, List, [], ◌∷◌, ◌++◌, length, slice_index_or, None, Ok}
use Rattle.std.specs.List.{list_any, list_all}
use Rattle.lin_rows.specs.Numbers.{is_zero}
use Rattle.lin_rows.specs.Rows.{Row, is_row, is_contradiction, coefficient_at}
use Rattle.lin_rows.specs.Divisors.{tightened}
use Rattle.line_rows.specs.Steps.{row_at, held_rows}
use Rattle.proof_lines.specs.Numbers.{stands_in, are_different}
use Rattle.line_rows.specs.Evidence.{row_limit, all_different, all_cancel}
use Rattle.theory_api.specs.Elimination.{eliminate}
use Rattle.theory_api.specs.Laws.{rows_at, is_some_row}
use Rattle.elimination.specs.declared.tableau.Tableau.{Tableau}
use Rattle.theory_api.specs.Ends.{names_none}
use Rattle.elimination.specs.Pairs.{IsCombinedAt, Paired}

-- THE TABLEAU: the rows that are held while places are eliminated.

-- the held rows are the used given ones, tightened, and those of the steps. Each step eliminates, in the order of the places so far,
-- and each place that a held row names is eliminated or left
pub record IsRun (rows : List Row) (t : Tableau) : Type 0 where
  pub given : list_all (λ u. nat_lt u (length rows)) t.used ≡ true
  pub some : 0 < length t.held → is_some_row t.used ≡ true
  pub held_is : held_rows (rows_at rows t.used) t.steps ≡ Ok t.held
  pub rows_are : (i : ℕ) → i < length t.held → is_row (row_at t.held i) ≡ true
  pub cancel : all_cancel t.held t.steps ≡ true
  pub order_different : are_different t.order ≡ true
  pub in_order : eliminate t.order t.held 0 t.steps None ≡ true
  pub below : (q : ℕ) → (stands_in t.order q || stands_in t.left q) ≡ true → q < t.ints
  pub left_apart : (q : ℕ) → stands_in t.left q ≡ true → stands_in t.order q ≡ false
  pub named : (i : ℕ) → i < length t.held → (q : ℕ)
      → is_zero (coefficient_at (row_at t.held i).terms q) ≡ false
      → (stands_in t.order q || stands_in t.left q) ≡ true

-- besides, no held row is a contradiction, no two are equal, and there are fewer than the limit
pub record IsTableau (rows : List Row) (t : Tableau) : Type 0 where
  pub run : IsRun rows t
  pub consistent : list_any is_contradiction t.held ≡ false
  pub different : all_different t.held ≡ true
  pub few : length t.held < row_limit

-- the given rows up to a number are held, tightened
abbrev pub AreTaken : List Row → ℕ → List Row → Type 0
AreTaken rows n held =
    (m : ℕ) → m < n → (i : ℕ) × (i < length held) × (row_at held i ≡ tightened (row_at rows m))

-- while given rows are taken: no place is eliminated, and each that a given row names is left
pub record IsTaking (rows : List Row) (n : ℕ) (t : Tableau) : Type 0 where
  pub rows_are : list_all is_row rows ≡ true
  pub tableau : IsTableau rows t
  pub no_steps : t.steps ≡ []
  pub no_order : t.order ≡ []
  pub taken : AreTaken rows n t.held
  pub left : (m : ℕ) → m < length rows → (q : ℕ)
      → is_zero (coefficient_at (row_at rows m).terms q) ≡ false → stands_in t.left q ≡ true

-- places are eliminated: all given rows are held, and each pair at an eliminated place is combined
pub record IsElimination (rows : List Row) (t : Tableau) : Type 0 where
  pub tableau : IsTableau rows t
  pub taken : AreTaken rows (length rows) t.held
  pub paired : Paired t.order t.held

-- a tableau after some steps at the place that is being eliminated: only rows that name no place of the order are added
pub record Grown (t : Tableau) (u : Tableau) : Type 0 where
  pub ints : u.ints ≡ t.ints
  pub order : u.order ≡ t.order
  pub left : u.left ≡ t.left
  pub more : List Row
  pub held : u.held ≡ t.held ++ more
  pub none : list_all (names_none t.order) more ≡ true

-- two held rows may be combined at the last place of the order, which is the first of it that they name
pub record CanMeet (t : Tableau) (place : ℕ) (high : ℕ) (low : ℕ) : Type 0 where
  pub before : List ℕ
  pub order : t.order ≡ before ++ place ∷ []
  pub high_below : high < length t.held
  pub low_below : low < length t.held
  pub high_none : names_none before (row_at t.held high) ≡ true
  pub low_none : names_none before (row_at t.held low) ≡ true
  pub high_sign : pos 0 <ℤ coefficient_at (row_at t.held high).terms place
  pub low_sign : coefficient_at (row_at t.held low).terms place <ℤ pos 0

-- what stands after steps at a place
pub record IsGrown (rows : List Row) (t : Tableau) (u : Tableau) : Type 0 where
  pub tableau : IsTableau rows u
  pub grown : Grown t u

-- each of some upper rows may be combined with each of some lower ones
abbrev pub CanAllMeet : Tableau → ℕ → List ℕ → List ℕ → Type 0
CanAllMeet t place highs lows =
    (a b : ℕ) → a < length highs → b < length lows
    → CanMeet t place (slice_index_or highs a 0) (slice_index_or lows b 0)

-- each of the first upper rows is combined with each of the first lower ones
abbrev pub AreCombined : List Row → ℕ → List ℕ → ℕ → List ℕ → ℕ → Type 0
AreCombined held place highs m lows n =
    (a b : ℕ) → a < m → b < n
    → IsCombinedAt place held (row_at held (slice_index_or highs a 0))
    (row_at held (slice_index_or lows b 0))
