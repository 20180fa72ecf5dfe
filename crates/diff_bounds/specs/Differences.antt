-- Which rows and problems the solver takes.
use Rattle.std.specs.Prelude.{ℕ, ◌+◌, ◌*◌, ◌^◌, nat_le, ℤ, pos, negsuc, ◌+ℤ◌, unsigned_abs, Bool, true, false, ◌&&◌, ◌||◌, List, [], ◌∷◌, Option, Some, None}
use Rattle.std.specs.List.{list_all}
use Rattle.std.specs.Ordering.{int_eq}
use Rattle.lin_rows.specs.declared.term.RowTerm.{RowTerm}
use Rattle.lin_rows.specs.Rows.{Row, negated}
use Rattle.lin_rows.specs.Divisors.{tightened}
use Rattle.proof_lines.specs.declared.problem.AtomKind.{AtomKind}
use Rattle.proof_lines.specs.declared.problem.AtomKind.TheVariants.{Plain, Row as OfRow}
use Rattle.proof_lines.specs.Problems.{PlainProblem}
use Rattle.line_rows.specs.Evidence.{in_state}

-- DIFFERENCE ROWS

-- a coefficient is 1 or -1
abbrev pub is_unit : ℤ → Bool
is_unit c = int_eq c (pos 1) || int_eq c (negsuc 0)

-- terms of a difference: at most two, each coefficient 1 or -1, and two have opposite signs
abbrev pub are_difference : List RowTerm → Bool
are_difference [] = true
are_difference (t ∷ []) = is_unit t.coef
are_difference (t ∷ u ∷ []) =
    (is_unit t.coef && is_unit u.coef) && int_eq (t.coef +ℤ u.coef) (pos 0)
are_difference (t ∷ u ∷ v ∷ ts) = false

-- the greatest size of a number of a state
abbrev pub state_limit : ℕ
state_limit = 10 ^ 15

-- as many such bounds as there are integer names, and one more, don't lead beyond the range of a state
abbrev pub is_near : ℕ → ℤ → Bool
is_near ints b = nat_le ((ints + 1) * unsigned_abs b) state_limit

-- a row that the solver takes: tightened, it is a difference with a near bound
abbrev pub is_taken : ℕ → Row → Bool
is_taken ints r = are_difference (tightened r).terms && is_near ints (tightened r).bound

-- the solver takes each of these rows
abbrev pub are_taken : ℕ → List Row → Bool
are_taken ints rows = list_all (is_taken ints) rows

-- PROBLEMS THAT FIT

-- a row that is there is taken
abbrev pub is_there_taken : ℕ → Option Row → Bool
is_there_taken ints (Some r) = is_taken ints r
is_there_taken ints None = false

-- the coefficients are in the range of a state, and the row and its negation are taken
abbrev pub row_fits : ℕ → Row → Bool
row_fits ints r =
    list_all (λ t. in_state t.coef) r.terms && (is_taken ints r && is_there_taken ints (negated r))

-- the row of an atom, if it has one, fits
abbrev pub atom_fits : ℕ → AtomKind → Bool
atom_fits ints Plain = true
atom_fits ints (OfRow r) = row_fits ints r

-- a problem fits where the rows of all its atoms do
abbrev pub problem_fits : PlainProblem → Bool
problem_fits p = list_all (atom_fits p.ints) p.atoms
