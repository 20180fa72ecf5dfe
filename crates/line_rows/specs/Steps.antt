-- The rows of a line: those of its used literals and those of its steps; and what makes them contradict one another.
use Rattle.std.specs.Prelude.{ℕ, ◌-◌, nat_lt, ℤ, pos, int_lt, Bool, true, false, not, cond, ◌&&◌, ◌||◌, List, [], ◌∷◌, ◌++◌, length, map, slice_get, slice_index_or, Option, Some, None, Result, Ok, Err, is_some}
use Rattle.std.specs.List.{list_all}
use Rattle.std.specs.Option.{option_and_then, option_map}
use Rattle.lin_rows.specs.Rows.{Row, is_contradiction, negated}
use Rattle.lin_rows.specs.Divisors.{tightened}
use Rattle.lin_rows.specs.Sums.{row_sum}
use Rattle.proof_lines.specs.declared.clause.Lit.{Lit}
use Rattle.proof_lines.specs.declared.problem.AtomKind.{AtomKind}
use Rattle.proof_lines.specs.declared.problem.AtomKind.TheVariants.{Plain, Row as OfRow}
use Rattle.proof_lines.specs.declared.line.RowStep.{RowStep}
use Rattle.proof_lines.specs.declared.line.Why.{Why}
use Rattle.proof_lines.specs.declared.line.Why.TheVariants.{Place, Multiplier, Range}
use Rattle.line_rows.specs.Refusals.{need, then_, or_broken}

-- THE ROWS OF A LINE: those of its used literals, tightened, then those of its steps.

-- the row of an atom, where it is there and has one
abbrev pub row_of_kind : Option AtomKind → Option Row
row_of_kind (Some (OfRow r)) = Some r
row_of_kind (Some Plain) = None
row_of_kind None = None

-- the row of an atom, by its number, where it has one
abbrev pub atom_row : List AtomKind → ℕ → Option Row
atom_row atoms a = row_of_kind (slice_get atoms a)

-- the atom of a literal has a row
abbrev pub has_row : List AtomKind → Lit → Bool
has_row atoms l = is_some (atom_row atoms l.atom)

-- the row of a literal: the atom's row, and for a negative literal its negation, where that is in range
abbrev pub lit_row : List AtomKind → Lit → Option Row
lit_row atoms l =
    cond l.positive (atom_row atoms l.atom) (option_and_then negated (atom_row atoms l.atom))

-- a row in front of other rows, where there are all of them
abbrev pub with_row : Option Row → Option (List Row) → Option (List Row)
with_row (Some r) (Some rs) = Some (r ∷ rs)
with_row (Some r) None = None
with_row None rs = None

-- the rows of some literals, tightened
abbrev pub lit_rows : List AtomKind → List Lit → Option (List Row)
lit_rows atoms [] = Some []
lit_rows atoms (l ∷ ls) = with_row (option_map tightened (lit_row atoms l)) (lit_rows atoms ls)

-- there is a literal
abbrev pub is_some_literal : List Lit → Bool
is_some_literal [] = false
is_some_literal (l ∷ ls) = true

-- the rows of the used literals. Place: none is used, or a used atom doesn't exist or has no row. Range: a negation leaves
-- the range of a row
abbrev pub used_rows : List AtomKind → List Lit → Result (List Row) Why
used_rows atoms used =
    need (is_some_literal used && list_all (has_row atoms) used) Place
    (or_broken Range (lit_rows atoms used))

-- what stands for a row that isn't there
abbrev pub no_row : Row
no_row = record { terms = []; bound = pos 0 }

-- the row of a number
abbrev pub row_at : List Row → ℕ → Row
row_at rows i = slice_index_or rows i no_row

-- a number below 0
abbrev pub is_negative : ℤ → Bool
is_negative a = int_lt a (pos 0)

-- a number above 0
abbrev pub is_positive : ℤ → Bool
is_positive a = int_lt (pos 0) a

-- the row of a step, by the order of its tests. Place: one of the two is no earlier row. Multiplier: one is negative. Range: a
-- product or sum leaves the range of a row
abbrev pub step_row : List Row → RowStep → Result Row Why
step_row rows s =
    need (nat_lt s.left (length rows) && nat_lt s.right (length rows)) Place
    (need (not (is_negative s.first || is_negative s.second)) Multiplier
    (or_broken Range (row_sum (row_at rows s.left) s.first (row_at rows s.right) s.second)))

-- rows, and after them the row of each step
abbrev pub with_steps : List Row → List RowStep → Result (List Row) Why
with_steps rows [] = Ok rows
with_steps rows (s ∷ ss) = then_ (step_row rows s) (λ r. with_steps (rows ++ r ∷ []) ss)

-- all rows of a line
abbrev pub line_rows : List AtomKind → List Lit → List RowStep → Result (List Row) Why
line_rows atoms used steps = then_ (used_rows atoms used) (λ rows. with_steps rows steps)

-- all rows of steps over given rows, in the place of literals
abbrev pub held_rows : List Row → List RowStep → Result (List Row) Why
held_rows given steps = with_steps (map tightened given) steps

-- THE CAUSE OF A FARKAS LINE: the last row is a contradiction.

-- the last row of a line
abbrev pub last_row : List Row → Row
last_row rows = row_at rows (length rows - 1)

-- the last row of a line is a contradiction
abbrev pub ends_badly : List Row → Bool
ends_badly rows = is_contradiction (last_row rows)

-- given rows and their steps have rows, the last of which is a contradiction
abbrev pub refutes_so : Result (List Row) Why → Bool
refutes_so (Ok rows) = ends_badly rows
refutes_so (Err w) = false

-- steps make a contradiction of these given rows, so no whole numbers satisfy them all
abbrev pub refutes : List Row → List RowStep → Bool
refutes given steps = refutes_so (held_rows given steps)
