-- The index of the rows of a place: for each place the numbers of the rows that name it. It mirrors src/naming.
use Rattle.std.specs.Prelude.{◌≡◌, ℕ, ◌<◌, Bool, true, List, [], length, slice_index_or}
use Rattle.lin_rows.specs.Rows.{Row}
use Rattle.proof_lines.specs.Numbers.{stands_in}
use Rattle.line_rows.specs.Steps.{row_at}
use Rattle.elimination.specs.Places.{names}

-- the list of a place has a number
abbrev pub lists : List (List ℕ) → ℕ → ℕ → Bool
lists by_place q i = stands_in (slice_index_or by_place q []) i

-- no number leaves a list
abbrev pub KeepsLists : List (List ℕ) → List (List ℕ) → Type 0
KeepsLists old new = (q i : ℕ) → lists old q i ≡ true → lists new q i ≡ true

-- THE INDEX: each row's number stands in the list of each place that the row names. More may stand there
abbrev pub IsNaming : List Row → List (List ℕ) → Type 0
IsNaming rows by_place =
    (i : ℕ) → i < length rows → (q : ℕ) → names q (row_at rows i) ≡ true → lists by_place q i ≡ true
