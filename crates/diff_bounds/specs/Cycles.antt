-- A walk that comes back to its place, and the steps that add up its rows.
use Rattle.std.specs.Prelude.{◌≡◌, true, ℕ, zero, suc, ◌+◌, ◌-◌, ◌<◌, ◌≤◌, nat_eq, nat_le, ℤ, pos, cond, List, [], ◌∷◌, ◌++◌, length, slice_index_or, Option, Some, None, is_none}
use Rattle.std.specs.List.{list_all}
use Rattle.lin_rows.specs.Rows.{Row}
use Rattle.lin_rows.specs.Divisors.{tightened}
use Rattle.proof_lines.specs.declared.line.RowStep.{RowStep}
use Rattle.proof_lines.specs.Numbers.{are_different}
use Rattle.line_rows.specs.Steps.{row_at}
use Rattle.theory_api.specs.declared.answer.TheoryAnswer.{TheoryAnswer}
use Rattle.theory_api.specs.declared.answer.TheoryAnswer.TheVariants.{Model, Conflict, Split, Rows, Range, Memory}
use Rattle.diff_bounds.specs.declared.walks.Visit.{Visit}
use Rattle.diff_bounds.specs.Spans.{Spans}
use Rattle.diff_bounds.specs.Walks.{visit_at, back, walk_edges}

-- the edges of a walk that comes back to its place, the last one first; on the way it comes to no place twice
pub record IsCycle (visits : List Visit) (used : List ℕ) : Type 0 where
  pub end : ℕ
  pub edge_count : ℕ
  pub end_below : end < length visits
  pub some : 0 < edge_count
  pub deep : edge_count ≤ (visit_at visits end).depth
  pub closed : (visit_at visits (back visits edge_count end)).place ≡ (visit_at visits end).place
  pub simple : (i j : ℕ) → i < j → j < edge_count
      → (visit_at visits (back visits i end)).place ≡ (visit_at visits (back visits j end)).place
      → ⊥
  pub used_is : used ≡ walk_edges visits edge_count end

-- GOING BACK along a walk: a list says of each place after how many edges it was seen

-- how many places were not seen
abbrev pub free_places : List (Option ℕ) → ℕ
free_places [] = 0
free_places (o ∷ seen) = cond (is_none o) (1 + free_places seen) (free_places seen)

-- how far the way back has come from the visit `last`
pub record IsGoingBack (ints : ℕ) (visits : List Visit) (last : ℕ) (seen : List (Option ℕ))
    (used : List ℕ) (at : ℕ) : Type 0 where
  pub at_is : at ≡ back visits (length used) last
  pub used_is : used ≡ walk_edges visits (length used) last
  pub seen_count : length seen ≡ ints + 1
  pub free : free_places seen + length used ≡ ints + 1
  pub places : (p s : ℕ) → slice_index_or seen p None ≡ Some s
      → (s < length used) × ((visit_at visits (back visits s last)).place ≡ p)
  pub marked : (i : ℕ) → i < length used
      → slice_index_or seen (visit_at visits (back visits i last)).place None ≡ Some i

-- ONE CYCLE OF ROWS

-- Rows, by their numbers, lead back from place to place: each leads to its place from the place of the next one, and the last from `start`.
abbrev pub LeadBack : ℕ → List Row → List ℕ → List ℕ → ℕ → Type 0
LeadBack ints rows [] [] start = Unit {0}
LeadBack ints rows [] (p ∷ ps) start = ⊥
LeadBack ints rows (u ∷ us) [] start = ⊥
LeadBack ints rows (u ∷ us) (p ∷ ps) start =
    (bound : ℤ) × Spans ints (tightened (row_at rows u)) (slice_index_or ps 0 start) p bound
    × LeadBack ints rows us ps start

-- Rows are those of one cycle, the last one first: it comes to no place twice, and ends where it starts.
pub record IsRowCycle (ints : ℕ) (rows : List Row) (used : List ℕ) : Type 0 where
  pub end : ℕ
  pub others : List ℕ
  pub within : list_all (λ p. nat_le p ints) (end ∷ others) ≡ true
  pub simple : are_different (end ∷ others) ≡ true
  pub lead : LeadBack ints rows used (end ∷ others) end

-- THE STEPS: the first adds the first two of `count` rows, and each next one adds one row more

-- the left row of a step: the first of all rows at the first step, and then the row of the step before
abbrev pub left_of : ℕ → ℕ → ℕ
left_of count right = cond (nat_eq right 1) 0 (count + right - 2)

-- the step that adds the row of this number
abbrev pub step_at : ℕ → ℕ → RowStep
step_at count right =
    record { left = left_of count right; first = pos 1; right = right; second = pos 1 }

-- the first steps, in their order
abbrev pub first_steps : ℕ → ℕ → List RowStep
first_steps count zero = []
first_steps count (suc n) = first_steps count n ++ step_at count (suc n) ∷ []

-- CONFLICTS: the different rows of one cycle, which the steps add up one after the other
abbrev pub AddsUp : ℕ → List Row → TheoryAnswer → Type 0
AddsUp ints rows (Conflict used steps) =
    IsRowCycle ints rows used × (are_different used ≡ true)
    × (steps ≡ first_steps (length used) (length used - 1))
AddsUp ints rows (Model values) = Unit {0}
AddsUp ints rows (Split place at used steps low high values) = Unit {0}
AddsUp ints rows (Rows used steps) = Unit {0}
AddsUp ints rows (Range used steps what) = Unit {0}
AddsUp ints rows Memory = Unit {0}
