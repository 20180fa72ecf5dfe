-- Pairs of an upper and a lower row, when a pair counts as combined, and what elimination leaves behind.
use Rattle.std.specs.Prelude.{◌≡◌, ℕ, ◌<◌, length, ℤ, slice_index_or, true, false, List, Some, ◌⊎◌, pos, ◌<ℤ◌}
use Rattle.lin_rows.specs.declared.combining.Combined.{Combined}
use Rattle.lin_rows.specs.Rows.{Row, has_no_terms, is_contradiction, is_row, coefficient_at}
use Rattle.lin_rows.specs.Cancelling.{combined}
use Rattle.line_rows.specs.Steps.{row_at}
use Rattle.theory_api.specs.Elimination.{stage}
use Rattle.lin_rows.specs.Numbers.{is_zero}

-- the place of an order at a stage
abbrev pub place_at : List ℕ → ℕ → ℕ
place_at order k = slice_index_or order k 0

-- the combination of an upper and a lower row at a place is a constant that is no contradiction, or a held row
pub record IsCombinedAt (place : ℕ) (held : List Row) (high : Row) (low : Row) : Type 0 where
  pub sum : Combined
  pub sum_is : combined high low place ≡ Some sum
  pub stands : ((has_no_terms sum.row.terms ≡ true) × (is_contradiction sum.row ≡ false))
      ⊎ ((m : ℕ) × (m < length held) × (row_at held m ≡ sum.row))

-- the combination of two rows at the place of a stage is a constant that is no contradiction, or a held row
abbrev pub IsCombined : List ℕ → List Row → ℕ → Row → Row → Type 0
IsCombined order held k high low = IsCombinedAt (place_at order k) held high low

-- two held rows at a stage, the upper one first
pub record Pair (order : List ℕ) (held : List Row) (k : ℕ) (high : ℕ) (low : ℕ) : Type 0 where
  pub high_below : high < length held
  pub low_below : low < length held
  pub high_stage : stage order (row_at held high) ≡ k
  pub low_stage : stage order (row_at held low) ≡ k
  pub high_sign : pos 0 <ℤ coefficient_at (row_at held high).terms (place_at order k)
  pub low_sign : coefficient_at (row_at held low).terms (place_at order k) <ℤ pos 0

-- while places are eliminated: each pair at a stage of the order so far is combined
abbrev pub Paired : List ℕ → List Row → Type 0
Paired order held =
    (k i j : ℕ) → k < length order → Pair order held k i j
    → IsCombined order held k (row_at held i) (row_at held j)

-- all places are eliminated: the order has each place that a held row names, and each pair at a stage is combined
pub record Eliminated (order : List ℕ) (held : List Row) : Type 0 where
  pub rows : (i : ℕ) → i < length held → is_row (row_at held i) ≡ true
  pub consistent : (i : ℕ) → i < length held → is_contradiction (row_at held i) ≡ false
  pub places : (i : ℕ) → i < length held → (q : ℕ)
      → is_zero (coefficient_at (row_at held i).terms q) ≡ false
      → (m : ℕ) × (m < length order) × (place_at order m ≡ q)
  pub pairs : (k i j : ℕ) → k < length order → Pair order held k i j
      → IsCombined order held k (row_at held i) (row_at held j)
  pub different : (m k : ℕ) → m < k → k < length order → place_at order k ≡ place_at order m → ⊥
