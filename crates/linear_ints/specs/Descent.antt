-- The descent that chooses values: all rows from a stage on are true at them.
use Rattle.std.specs.Prelude.{◌≡◌, ℕ, ◌<◌, ◌≤◌, length, ℤ, pos, neg_ℤ, ◌≤ℤ◌, ◌<ℤ◌, true, false, List, [], ◌∷◌}
use Rattle.lin_rows.specs.Rows.{Row, coefficient_at}
use Rattle.lin_rows.specs.Divisors.{tightened}
use Rattle.line_rows.specs.Steps.{row_at}
use Rattle.theory_api.specs.Chosen.{Choice, is_named, chosen_point, are_driven}
use Rattle.theory_api.specs.Elimination.{stage}
use Rattle.theory_api.specs.Ends.{after}
use Rattle.linear_ints.specs.Deciding.{Says}
use Rattle.elimination.specs.Pairs.{place_at}
use Rattle.proof_lines.specs.Problems.{row_true}

-- at a point all held rows from a stage on are true
abbrev pub TrueFrom : List ℕ → List Row → ℕ → (ℕ → ℤ) → Type 0
TrueFrom order held k x =
    (i : ℕ) → i < length held → k ≤ stage order (row_at held i) → row_true x (row_at held i) ≡ true

-- the places from a stage on have values, which the rows drive and which satisfy all rows from that stage on
pub record Descended (order : List ℕ) (held : List Row) (k : ℕ)
    (choices : List Choice) : Type 0 where
  pub driven : are_driven held [] choices ≡ true
  pub true_from : TrueFrom order held k (chosen_point (after [] choices))
  pub valued : (m : ℕ) → k ≤ m → m < length order
      → is_named (after [] choices) (place_at order m) ≡ true
  pub free : (m : ℕ) → m < k → m < length order
      → is_named (after [] choices) (place_at order m) ≡ false

-- what the rows at a stage say of its place: `low` is at least the bound of each lower row, and `high` at most that of each upper row
pub record Within (order : List ℕ) (held : List Row) (k : ℕ) (earlier : List Choice) (low : ℤ)
    (high : ℤ) : Type 0 where
  pub lows : (i : ℕ) → i < length held → stage order (row_at held i) ≡ k
      → coefficient_at (row_at held i).terms (place_at order k) <ℤ pos 0
      → (b : ℤ) × Says held earlier (place_at order k) i b × (b ≤ℤ low)
  pub highs : (i : ℕ) → i < length held → stage order (row_at held i) ≡ k
      → pos 0 <ℤ coefficient_at (row_at held i).terms (place_at order k)
      → (b : ℤ) × Says held earlier (place_at order k) i b × (high ≤ℤ neg_ℤ b)

-- each of some rows is, tightened, a held row
abbrev pub IsHeld : List Row → List Row → Type 0
IsHeld held [] = Unit {0}
IsHeld held (r ∷ rows) =
    ((i : ℕ) × (i < length held) × (row_at held i ≡ tightened r)) × IsHeld held rows
