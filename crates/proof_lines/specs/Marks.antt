-- A private table by which long clauses are resolved; it mirrors src/marks.rt, and a reader of the rules passes it by.
use Rattle.std.specs.Prelude.{◌≡◌, ℕ, ◌+◌, ◌*◌, ◌<◌, Bool, true, false, List, length, slice_index_or}
use Rattle.proof_lines.specs.declared.clause.Lit.{Lit}
use Rattle.proof_lines.specs.Clauses.{has}

-- the number of a sign, by which the two literals of an atom differ
abbrev pub sign_place : Bool → ℕ
sign_place true = 1
sign_place false = 0

-- the place of a literal in a table of marks
abbrev pub place : Lit → ℕ
place l = 2 * l.atom + sign_place l.positive

-- up to its length, a table has marks at the places of some literals and of no others
abbrev pub HasMarks : List Bool → List Lit → Type 0
HasMarks marks c =
    (l : Lit) → place l < length marks → slice_index_or marks (place l) false ≡ has c l
