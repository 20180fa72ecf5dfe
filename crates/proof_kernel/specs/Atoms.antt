-- A private index of the rows `place <= at` of atoms; it mirrors src/atoms.rt, and a reader of the rules passes it by.
use Rattle.std.specs.Prelude.{ℕ, ℤ, pos, ◌==◌, ◌&&◌, Bool, false, cond, List, [], ◌∷◌, Option, Some, None}
use Rattle.std.specs.Ordering.{int_eq}
use Rattle.std.specs.HashSet.{contains, HashSet, spare}
use Rattle.lin_rows.specs.declared.term.RowTerm.{RowTerm}
use Rattle.proof_lines.specs.declared.problem.AtomKind.{AtomKind}
use Rattle.proof_lines.specs.declared.problem.AtomKind.TheVariants.{Plain, Row as OfRow}

-- THE INDEX of the rows `place <= at` of atoms. No clause of a call outside src/atoms.rt names it.

-- two pairs of a place and a bound are equal
abbrev pub same_pair : ℕ × ℤ → ℕ × ℤ → Bool
same_pair x y = (x.0 == y.0) && int_eq x.1 y.1

-- a set has the pair of a place and a bound
abbrev pub has_pair : {S : Type 0} → HashSet (ℕ × ℤ) S → ℕ → ℤ → Bool
has_pair pairs p k = contains same_pair pairs (p, k)

-- for how many pairs more a set has memory
abbrev pub room : {S : Type 0} → HashSet (ℕ × ℤ) S → ℕ
room pairs = spare pairs

-- the place and the bound of terms `1 * place` alone
abbrev pub pair_at : ℤ → List RowTerm → Option (ℕ × ℤ)
pair_at bound [] = None
pair_at bound (t ∷ []) = cond (int_eq t.coef (pos 1)) (Some (t.place, bound)) None
pair_at bound (t ∷ u ∷ ts) = None

-- the place and the bound of an atom whose row is `place <= bound`
abbrev pub pair_of : AtomKind → Option (ℕ × ℤ)
pair_of Plain = None
pair_of (OfRow r) = pair_at r.bound r.terms

-- a pair is there, and has this place and this bound
abbrev pub is_pair : Option (ℕ × ℤ) → ℕ → ℤ → Bool
is_pair None p k = false
is_pair (Some x) p k = (x.0 == p) && int_eq x.1 k
