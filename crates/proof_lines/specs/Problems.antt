-- Problems, and the meanings that make their clauses true.
use Rattle.std.specs.Prelude.{◌≡◌, ℕ, nat_lt, ℤ, pos, int_le, Bool, true, false, ◌&&◌, List, length, slice_index_or, slice_get, Option, Some, None}
use Rattle.std.specs.List.{list_all}
use Rattle.lin_rows.specs.Rows.{Row, value_at, places_below, is_row}
use Rattle.proof_lines.specs.declared.clause.Lit.{Lit}
use Rattle.proof_lines.specs.declared.problem.AtomKind.{AtomKind}
use Rattle.proof_lines.specs.declared.problem.AtomKind.TheVariants.{Plain, Row as OfRow}
use Rattle.proof_lines.specs.declared.problem.Interpretation.{Interpretation}
use Rattle.proof_lines.specs.Clauses.{all_true}

-- Atoms, how many integer names there are, and clauses, all of which are to be true.
pub record PlainProblem : Type 0 where
  pub atoms : List AtomKind
  pub ints : ℕ
  pub clauses : List (List Lit)

-- the literals of a clause name atoms below a number
abbrev pub atoms_below : ℕ → List Lit → Bool
atoms_below n c = list_all (λ l. nat_lt l.atom n) c

-- the row of an atom, if it has one, names integers below a number
abbrev pub names_below : ℕ → AtomKind → Bool
names_below n Plain = true
names_below n (OfRow r) = places_below n r

-- the row of an atom, if it has one, is what the type of rows keeps: its places rise and its numbers are in range
abbrev pub has_good_row : AtomKind → Bool
has_good_row Plain = true
has_good_row (OfRow r) = is_row r

-- what the type of a problem keeps
abbrev pub fits : PlainProblem → Bool
fits p = list_all (names_below p.ints) p.atoms && list_all (atoms_below (length p.atoms)) p.clauses

-- A meaning gives each plain atom a truth value and each integer name a whole number.
pub record Meaning : Type 0 where
  pub truth : ℕ → Bool
  pub number : ℕ → ℤ

-- a point satisfies a row
abbrev pub row_true : (ℕ → ℤ) → Row → Bool
row_true x r = int_le (value_at x r.terms) r.bound

-- a plain atom has the truth value that it is given, and an atom with a row is true exactly where its row is
abbrev pub kind_true : Meaning → ℕ → Option AtomKind → Bool
kind_true m a (Some (OfRow r)) = row_true m.number r
kind_true m a (Some Plain) = m.truth a
kind_true m a None = m.truth a

-- the truth of an atom of a list, by its number
abbrev pub atom_true : Meaning → List AtomKind → ℕ → Bool
atom_true m atoms a = kind_true m a (slice_get atoms a)

-- all clauses of a problem are true
abbrev pub makes_true : Meaning → PlainProblem → Bool
makes_true m p = all_true (atom_true m p.atoms) p.clauses

-- no meaning makes all clauses true
abbrev pub HasNoInterpretation : PlainProblem → Type 0
HasNoInterpretation p = (m : Meaning) → makes_true m p ≡ true → ⊥

-- the meaning of an interpretation; names beyond its lists are false and 0
abbrev pub meaning_of : Interpretation → Meaning
meaning_of i = record {
  truth = λ a. slice_index_or i.truths a false;
  number = λ n. slice_index_or i.ints n (pos 0);
}
