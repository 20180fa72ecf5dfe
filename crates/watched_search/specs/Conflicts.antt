-- The chain of a conflict that a search on watched literals meets.
use Rattle.std.specs.Prelude.{◌≡◌, ℕ}
use Rattle.sat_core.specs.declared.state.SearchState.{SearchState}
use Rattle.sat_core.specs.Searching.{Aim, InChain}

-- the chain of a clause that is false, over all clauses of a problem
pub record IsMet (budget : ℕ) (s : SearchState) (i : ℕ) : Type 0 where
  pub aim : Aim
  pub before : ℕ
  pub chain : InChain aim budget before s i
  pub whole : chain.start ≡ s.grown.clauses
