-- Formulas over numbers mean what they mean over the names that the numbers stand for.
use Rattle.std.proofs.Common.{◌≡◌, ℕ, ℤ, Bool, true, false, not, cond, ◌&&◌, ◌||◌, Some, List, [], ◌∷◌, ◌++◌, map, get_or, refl, sym, ◌∙◌, ap, slice_get}
use Rattle.std.specs.Prelude.{pos, int_le}
use Rattle.lin_rows.specs.declared.term.RowTerm.{RowTerm}
use Rattle.lin_rows.specs.Rows.{Row, value_at}
use Rattle.proof_lines.specs.declared.problem.AtomKind.{AtomKind}
use Rattle.proof_lines.specs.Clauses.{same_bool}
use Rattle.proof_lines.specs.Problems.{Meaning, row_true, kind_true, atom_true}
use Rattle.ground_problem.specs.Symbols.{Integer, argument, Symbolic, always, same, has, at_most, negated, both, either, Interpretation, is_true, all_true}
use Rattle.ground_numbers.specs.Numbered.{holds, all_hold}
use Rattle.ground_numbers.specs.Numbers.{Atom, same_atom, has_atom, row_atom, same_atoms, same_integers, Table, has_number, has_integer, number_of, integer_of, row_of, row_literal, numbered}
use Rattle.ground_numbers.specs.Problem.{kind_of, interpretation_of}
use Rattle.ground_numbers.proofs.Lookups.{passes-there, position-below, get-map}
use Rattle.ground_numbers.proofs.Sameness.{same_atoms-is, same_integers-is}
use Rattle.ground_numbers.proofs.Growing.{RowIn, NamesIn, AllNamesIn}
use Rattle.ground_numbers.proofs.Valued.{Valued, row_of-true}

-- what an atom says, by an interpretation of names and by the values of numbers
abbrev pub atom_says : Interpretation → (ℕ → ℤ) → Atom → Bool
atom_says m x (same_atom a b) = m.same a b
atom_says m x (has_atom k r t) = m.has k r t
atom_says m x (row_atom r) = row_true x r

-- truth values and whole numbers of the numbers agree with an interpretation of the names
pub record Agrees (o : Table) (v : ℕ → Bool) (x : ℕ → ℤ) (m : Interpretation) : Type 0 where
  pub atoms : (a : Atom) → has_number o a ≡ true → v (number_of o a) ≡ atom_says m x a
  pub ints : Valued o x m.int

module _ (o : Table) (v : ℕ → Bool) (x : ℕ → ℤ) (m : Interpretation) (e : Agrees o v x m) where
  signed_true : (b : Bool) → same_bool b true ≡ b
  signed_true true = refl
  signed_true false = refl

  atom-means : (a : Atom) → has_number o a ≡ true → same_bool (v (number_of o a)) true ≡ atom_says m x a
  atom-means a h = signed_true (v (number_of o a)) ∙ e.atoms a h

  row-means : (ts : List RowTerm) (r : Row) → r.terms ≡ ts → RowIn o ts r → holds v (row_literal o ts r) ≡ row_true x r
  row-means [] r f h = ap (λ (ts : List RowTerm). int_le (value_at x ts) r.bound) (sym f)
  row-means (t ∷ ts) r f h = atom-means (row_atom r) h

  pub numbered-means : (f : Symbolic) → NamesIn o f → holds v (numbered o f) ≡ is_true m f
  numbered-means (always b) h = refl
  numbered-means (same a b) h = atom-means (same_atom a b) h
  numbered-means (has k r t) h = atom-means (has_atom k r t) h
  numbered-means (at_most t u n) h = row-means (row_of o t u n).terms (row_of o t u n) refl h.2 ∙ row_of-true o x m e.ints t u n h.0 h.1
  numbered-means (negated f) h = ap not (numbered-means f h)
  numbered-means (both f g) h = (let p = numbered-means f h.0 in let q = numbered-means g h.1 in λ i. p i && q i)
  numbered-means (either f g) h = (let p = numbered-means f h.0 in let q = numbered-means g h.1 in λ i. p i || q i)

  pub all-mean : (fs : List Symbolic) → AllNamesIn o fs → all_hold v (map (numbered o) fs) ≡ all_true m fs
  all-mean [] h = refl
  all-mean (f ∷ fs) h = (let p = numbered-means f h.0 in let q = all-mean fs h.1 in λ i. p i && q i)

-- ---- from names to numbers

abbrev pub no_atom : Atom
no_atom = same_atom 0 0

abbrev pub no_integer : Integer
no_integer = argument 0 0

-- what an interpretation gives to numbers
abbrev pub integer_values : Table → Interpretation → ℕ → ℤ
integer_values o m n = m.int (get_or o.ints n no_integer)

abbrev pub atom_values : Table → Interpretation → ℕ → Bool
atom_values o m n = atom_says m (integer_values o m) (get_or o.atoms n no_atom)

pub atom-there : (o : Table) (a : Atom) → has_number o a ≡ true → get_or o.atoms (number_of o a) no_atom ≡ a
atom-there o a h = sym (same_atoms-is a _ (passes-there (same_atoms a) o.atoms no_atom h))

pub integer-there : (o : Table) (y : Integer) → has_integer o y ≡ true → get_or o.ints (integer_of o y) no_integer ≡ y
integer-there o y h = sym (same_integers-is y _ (passes-there (same_integers y) o.ints no_integer h))

pub values-agree : (o : Table) (m : Interpretation) → Agrees o (atom_values o m) (integer_values o m) m
values-agree o m = record {
  atoms = λ a h. ap (atom_says m (integer_values o m)) (atom-there o a h);
  ints = λ y h. ap m.int (integer-there o y h);
}

-- ---- from numbers to names

-- what a number's atom is
pub kind-there : (o : Table) (rest : List AtomKind) (a : Atom) → has_number o a ≡ true → slice_get (map kind_of o.atoms ++ rest) (number_of o a) ≡ Some (kind_of a)
kind-there o rest a h = get-map kind_of o.atoms rest (number_of o a) no_atom (position-below (same_atoms a) o.atoms h) ∙ ap (λ b. Some (kind_of b)) (atom-there o a h)

pub meaning-agrees : (o : Table) (rest : List AtomKind) (m : Meaning) → Agrees o (atom_true m (map kind_of o.atoms ++ rest)) m.number (interpretation_of o m)
meaning-agrees o rest m = record { atoms = λ a h. ap (kind_true m (number_of o a)) (kind-there o rest a h) ∙ says a h; ints = λ y h. ap (λ b. cond b (m.number (integer_of o y)) (pos 0)) (sym h) }
  where
    says : (a : Atom) → has_number o a ≡ true → kind_true m (number_of o a) (Some (kind_of a)) ≡ atom_says (interpretation_of o m) m.number a
    says (same_atom a b) h = ap (λ c. c && m.truth (number_of o (same_atom a b))) (sym h)
    says (has_atom k r t) h = ap (λ c. c && m.truth (number_of o (has_atom k r t))) (sym h)
    says (row_atom r) h = refl

-- the whole numbers of the names are those of the meaning, or 0
pub integers-pass : (o : Table) (m : Meaning) (test : ℤ → Bool) → test (pos 0) ≡ true → ((n : ℕ) → test (m.number n) ≡ true) → (y : Integer) → test ((interpretation_of o m).int y) ≡ true
integers-pass o m test z h y = by_test (has_integer o y)
  where
    by_test : (b : Bool) → test (cond b (m.number (integer_of o y)) (pos 0)) ≡ true
    by_test true = h (integer_of o y)
    by_test false = z
