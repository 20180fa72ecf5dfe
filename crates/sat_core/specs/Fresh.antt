-- Each clause of a log is new among those before it.
use Rattle.std.specs.Prelude.{◌≡◌, ℕ, ◌<◌, ◌≤◌, true, false, List, [], length, slice_index_or}
use Rattle.proof_lines.specs.declared.clause.Lit.{Lit}
use Rattle.proof_lines.specs.Clauses.{has, sub, flip}

-- no clause after the first ones contains an earlier one or holds an atom both ways
pub record IsFresh (first : ℕ) (cs : List (List Lit)) : Type 0 where
  pub new : (k : ℕ) → first ≤ k → k < length cs → (j : ℕ) → j < k
      → sub (slice_index_or cs j []) (slice_index_or cs k []) ≡ false
  pub one_way : (k : ℕ) → first ≤ k → k < length cs → (l : Lit)
      → has (slice_index_or cs k []) l ≡ true → has (slice_index_or cs k []) (flip l) ≡ false
