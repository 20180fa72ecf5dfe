-- Numbers for atoms and for names of integers, in the order in which formulas first name them.
use Rattle.std.specs.Prelude.{ℕ, nat_lt, ◌==◌, ℤ, pos, ◌+ℤ◌, ◌-ℤ◌, neg_ℤ, int_le, Bool, true, false, cond, ◌&&◌, List, [], ◌∷◌, ◌++◌}
use Rattle.std.specs.Str.{bytes_eq}
use Rattle.std.specs.List.{list_any, position_or_len, fold}
use Rattle.lin_rows.specs.declared.term.RowTerm.{RowTerm}
use Rattle.lin_rows.specs.Rows.{Row}
use Rattle.lin_rows.specs.Sums.{put}
use Rattle.line_rows.specs.Evidence.{same_row}
use Rattle.ground_problem.specs.Symbols.{Stage, Integer, argument, reading, partial, Part, number, multiple, Symbolic, always, same, has, at_most, negated, both, either}
use Rattle.ground_numbers.specs.Numbered.{Numbered, known, literal, negation, conjunction, disjunction}

-- ---- what has a number

-- What an atom stands for: the equality of two constants, the lesser first; a relation's reading; a row over numbered integers.
pub data Atom : Type 0 where
  same_atom : (lesser greater : ℕ) → Atom
  has_atom : Stage → (relation : ℕ) → (tuple : List ℕ) → Atom
  row_atom : Row → Atom

-- two atoms stand for the same
abbrev pub same_atoms : Atom → Atom → Bool
same_atoms (same_atom a b) (same_atom c d) = (a == c) && (b == d)
same_atoms (same_atom a b) (has_atom k r t) = false
same_atoms (same_atom a b) (row_atom s) = false
same_atoms (has_atom k r t) (same_atom a b) = false
same_atoms (has_atom k r t) (has_atom j q u) = bytes_eq k j && ((r == q) && bytes_eq t u)
same_atoms (has_atom k r t) (row_atom s) = false
same_atoms (row_atom r) (same_atom a b) = false
same_atoms (row_atom r) (has_atom k q t) = false
same_atoms (row_atom r) (row_atom s) = same_row r s

-- two names name the same whole number
abbrev pub same_integers : Integer → Integer → Bool
same_integers (argument c p) (argument d q) = (c == d) && (p == q)
same_integers (argument c p) (reading k i t) = false
same_integers (argument c p) (partial n k i t) = false
same_integers (reading k i t) (argument c p) = false
same_integers (reading k i t) (reading j h u) = bytes_eq k j && ((i == h) && bytes_eq t u)
same_integers (reading k i t) (partial n j h u) = false
same_integers (partial n k i t) (argument c p) = false
same_integers (partial n k i t) (reading j h u) = false
same_integers (partial n k i t) (partial m j h u) =
    (n == m) && (bytes_eq k j && ((i == h) && bytes_eq t u))

-- The table: a number is a place in these lists, which hold no equal ones. It is over stages themselves, not over their numbers.
pub record Table : Type 0 where
  pub atoms : List Atom
  pub ints : List Integer

-- an atom has a number in the table
abbrev pub has_number : Table → Atom → Bool
has_number t a = list_any (same_atoms a) t.atoms

-- a name of a whole number has a number in the table
abbrev pub has_integer : Table → Integer → Bool
has_integer t x = list_any (same_integers x) t.ints

-- the number of an atom: the place of an equal one, else the next number
abbrev pub number_of : Table → Atom → ℕ
number_of t a = position_or_len (same_atoms a) t.atoms

-- the number of a name of a whole number: the place of an equal one, else the next number
abbrev pub integer_of : Table → Integer → ℕ
integer_of t x = position_or_len (same_integers x) t.ints

-- the table with one more atom, unless it is there
abbrev pub with_atom : Table → Atom → Table
with_atom t a = record { atoms = cond (has_number t a) t.atoms (t.atoms ++ a ∷ []); ints = t.ints }

-- the table with one more name of a whole number, unless it is there
abbrev pub with_integer : Table → Integer → Table
with_integer t x =
    record { atoms = t.atoms; ints = cond (has_integer t x) t.ints (t.ints ++ x ∷ []) }

-- the table with the names of a sum, in their order
abbrev pub with_integers : Table → List Part → Table
with_integers t [] = t
with_integers t (number n ∷ ps) = with_integers t ps
with_integers t (multiple k x ∷ ps) = with_integers (with_integer t x) ps

-- ---- rows

-- a coefficient, or its opposite
abbrev pub signed : Bool → ℤ → ℤ
signed true k = k
signed false k = neg_ℤ k

-- the multiples of a sum, over numbers, in their order
abbrev pub terms_of : Table → Bool → List Part → List RowTerm
terms_of t s [] = []
terms_of t s (number n ∷ ps) = terms_of t s ps
terms_of t s (multiple k x ∷ ps) =
    record { place = integer_of t x; coef = signed s k } ∷ terms_of t s ps

-- the sum of a sum's plain numbers
abbrev pub plain_of : List Part → ℤ
plain_of [] = pos 0
plain_of (number n ∷ ps) = n +ℤ plain_of ps
plain_of (multiple k x ∷ ps) = plain_of ps

-- a term added to terms whose places rise; no coefficient is 0
abbrev pub with_term : List RowTerm → RowTerm → List RowTerm
with_term [] u = put u []
with_term (t ∷ ts) u =
    cond (nat_lt t.place u.place) (t ∷ with_term ts u)
    (cond (nat_lt u.place t.place) (put u (t ∷ ts))
    (put (record { place = t.place; coef = t.coef +ℤ u.coef }) ts))

-- terms added up one by one, in their order
abbrev pub added_up : List RowTerm → List RowTerm
added_up ts = fold with_term [] ts

-- the bound of "t is at most u + n": n with the plain numbers of u, less those of t
abbrev pub bound_of : List Part → List Part → ℤ → ℤ
bound_of t u n = (n +ℤ plain_of u) -ℤ plain_of t

-- the row over numbered integers of "t is at most u + n"
abbrev pub row_of : Table → List Part → List Part → ℤ → Row
row_of o t u n =
    record { terms = added_up (terms_of o true t ++ terms_of o false u); bound = bound_of t u n }

-- ---- formulas

-- a row as a literal; without terms it is a truth value, and no atom
abbrev pub row_literal : Table → List RowTerm → Row → Numbered
row_literal o [] r = known (int_le (pos 0) r.bound)
row_literal o (t ∷ ts) r = literal (number_of o (row_atom r)) true

-- A formula over the numbers of a table.
abbrev pub numbered : Table → Symbolic → Numbered
numbered o (always b) = known b
numbered o (same a b) = literal (number_of o (same_atom a b)) true
numbered o (has k r t) = literal (number_of o (has_atom k r t)) true
numbered o (at_most t u n) = row_literal o (row_of o t u n).terms (row_of o t u n)
numbered o (negated f) = negation (numbered o f)
numbered o (both f g) = conjunction (numbered o f) (numbered o g)
numbered o (either f g) = disjunction (numbered o f) (numbered o g)

-- the table with a row as an atom, unless it has no terms
abbrev pub with_row : Table → List RowTerm → Row → Table
with_row o [] r = o
with_row o (t ∷ ts) r = with_atom o (row_atom r)

-- the table with the names of two sums, the first of them first
abbrev pub with_sums : Table → List Part → List Part → Table
with_sums o t u = with_integers (with_integers o t) u

-- The table once a formula is numbered, from left to right. The names of a sum have numbers also where its row has no terms, and
-- every atom also where its truth doesn't count.
abbrev pub naming : Table → Symbolic → Table
naming o (always b) = o
naming o (same a b) = with_atom o (same_atom a b)
naming o (has k r t) = with_atom o (has_atom k r t)
naming o (at_most t u n) =
    with_row (with_sums o t u) (row_of (with_sums o t u) t u n).terms
    (row_of (with_sums o t u) t u n)
naming o (negated f) = naming o f
naming o (both f g) = naming (naming o f) g
naming o (either f g) = naming (naming o f) g

-- the table once all these are numbered, in their order
abbrev pub naming_all : Table → List Symbolic → Table
naming_all o fs = fold naming o fs
