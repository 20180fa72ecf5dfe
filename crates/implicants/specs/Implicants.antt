-- Implicants: values of plain atoms, and literals over atoms with rows, by which each clause is true.
use Rattle.std.specs.Prelude.{◌≡◌, ℕ, ◌<◌, Bool, true, false, cond, List, [], length, slice_index_or}
use Rattle.std.specs.List.{list_any, list_all}
use Rattle.proof_lines.specs.declared.clause.Lit.{Lit}
use Rattle.proof_lines.specs.declared.problem.AtomKind.{AtomKind}
use Rattle.proof_lines.specs.Clauses.{has, same_bool, lit_true}
use Rattle.line_rows.specs.Steps.{has_row}

-- the value of a plain atom; one beyond the list is false
abbrev pub plain_value : List Bool → ℕ → Bool
plain_value values a = slice_index_or values a false

-- a literal over a plain atom holds by the atom's value, and one over an atom with a row where it is one of some literals
abbrev pub holds_by : List AtomKind → List Bool → (Lit → Bool) → Lit → Bool
holds_by atoms values given l =
    cond (has_row atoms l) (given l) (same_bool (plain_value values l.atom) l.positive)

-- one of a clause's literals holds
abbrev pub is_met : List AtomKind → List Bool → (Lit → Bool) → List Lit → Bool
is_met atoms values given c = list_any (holds_by atoms values given) c

-- AN IMPLICANT of some clauses: each of them has a literal that holds by the values or is one of the literals
abbrev pub IsImplicant : List AtomKind → List (List Lit) → List Bool → List Lit → Type 0
IsImplicant atoms cs values lits =
    (i : ℕ) → i < length cs → is_met atoms values (has lits) (slice_index_or cs i []) ≡ true

-- truth values of all atoms agree with it: each plain atom has its value, and each of the literals is true
pub record Agrees (atoms : List AtomKind) (values : List Bool) (lits : List Lit)
    (v : ℕ → Bool) : Type 0 where
  pub plain : (l : Lit) → has_row atoms l ≡ false → v l.atom ≡ plain_value values l.atom
  pub rows : list_all (lit_true v) lits ≡ true
