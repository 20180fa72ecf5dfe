-- A log with lines that drop clauses, beside the same log without them.
use Rattle.std.specs.Prelude.{◌≡◌, ℕ, Bool, true, false, ◌&&◌, cond, List, [], ◌∷◌, ◌++◌, replicate, slice_index_or, slice_set, Option, Some, None}
use Rattle.proof_lines.specs.declared.line.Line.{Line}
use Rattle.proof_lines.specs.declared.line.Line.TheVariants.{Resolve, Farkas, Split, Drop}
use Rattle.proof_kernel.specs.Rules.{is_some_number}

-- the lines of a log that drop no clause
abbrev pub without_drops : List Line → List Line
without_drops [] = []
without_drops (Resolve left right pivot ∷ ls) = Resolve left right pivot ∷ without_drops ls
without_drops (Farkas used steps ∷ ls) = Farkas used steps ∷ without_drops ls
without_drops (Split place at used steps low high values ∷ ls) =
    Split place at used steps low high values ∷ without_drops ls
without_drops (Drop clauses ∷ ls) = without_drops ls

-- the clause of a number is there and wasn't dropped, by what is noted of each clause
abbrev pub is_left : List Bool → ℕ → Bool
is_left left n = slice_index_or left n false

-- what is noted once clauses are dropped one after the other; nothing where one of them isn't left
abbrev pub after_drop : List Bool → List ℕ → Option (List Bool)
after_drop left [] = Some left
after_drop left (n ∷ ns) = cond (is_left left n) (after_drop (slice_set left n false) ns) None

-- What is noted behind a line that names and drops clauses that are left; nothing behind any other one. The clause of a line is left.
abbrev pub after_line : List Bool → Line → Option (List Bool)
after_line left (Resolve one other pivot) =
    cond (is_left left one && is_left left other) (Some (left ++ true ∷ [])) None
after_line left (Farkas used steps) = Some (left ++ true ∷ [])
after_line left (Split place at used steps low high values) = None
after_line left (Drop clauses) = cond (is_some_number clauses) (after_drop left clauses) None

-- each line names and drops clauses that are left by then
abbrev pub name_left : List Bool → List Line → Bool
name_left left [] = true
name_left left (l ∷ ls) = elim (after_line left l) [ Some next ↦ name_left next ls | None ↦ false ]

-- EACH LINE OF A LOG NAMES AND DROPS CLAUSES THAT ARE LEFT, where so many are before the first one.
abbrev pub DropsWell : ℕ → List Line → Type 0
DropsWell many ls = name_left (replicate many true) ls ≡ true
