-- What follows by forced literals alone.
use Rattle.std.specs.Prelude.{◌≡◌, ℕ, ◌<◌, Bool, true, false, List, [], length, slice_index_or}
use Rattle.std.specs.List.{list_all}
use Rattle.proof_lines.specs.declared.clause.Lit.{Lit}
use Rattle.proof_lines.specs.declared.problem.AtomKind.{AtomKind}
use Rattle.proof_lines.specs.declared.problem.AtomKind.TheVariants.{Plain, Row as OfRow}
use Rattle.proof_lines.specs.Clauses.{has, flip}
use Rattle.proof_lines.specs.Forced.{Forced}

-- WHAT FOLLOWS BY FORCED LITERALS ALONE.

-- the negations of all literals of some clause are forced
abbrev pub AreRefuted : List (List Lit) → Type 0
AreRefuted cs =
    (i : ℕ) × (i < length cs) × ((l : Lit) → has (slice_index_or cs i []) l ≡ true
    → Forced cs (flip l))

-- no clause is so, and each holds a forced literal
abbrev pub AreSatisfied : List (List Lit) → Type 0
AreSatisfied cs =
    (AreRefuted cs → ⊥) × ((i : ℕ) → i < length cs
    → (l : Lit) × (has (slice_index_or cs i []) l ≡ true) × Forced cs l)

-- an atom that stands for nothing but itself
abbrev pub is_plain : AtomKind → Bool
is_plain Plain = true
is_plain (OfRow r) = false

-- no atom stands for a row
abbrev pub are_plain : List AtomKind → Bool
are_plain atoms = list_all is_plain atoms
