-- The literals that clauses force.
use Rattle.std.specs.Prelude.{◌≡◌, ℕ, ◌<◌, true, false, List, [], length, slice_index_or}
use Rattle.proof_lines.specs.declared.clause.Lit.{Lit}
use Rattle.proof_lines.specs.Clauses.{has, same_lit, flip}

-- The forced literals of some clauses: the least set that has a literal of a clause wherever it has the opposites of all its
-- other literals.
pub data Forced (cs : List (List Lit)) : Lit → Type 0 where
  by_clause : (i : ℕ) → i < length cs → (l : Lit) → has (slice_index_or cs i []) l ≡ true
      → ((k : Lit) → has (slice_index_or cs i []) k ≡ true → same_lit k l ≡ false
      → Forced cs (flip k))
      → Forced cs l
