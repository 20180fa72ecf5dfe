-- Clauses that are dropped.
use Rattle.std.specs.Prelude.{ℕ, List, Option, None, slice_set}
use Rattle.std.specs.List.{fold}
use Rattle.proof_lines.specs.declared.clause.Lit.{Lit}

-- the clauses without those of some numbers
abbrev pub cleared : List (Option (List Lit)) → List ℕ → List (Option (List Lit))
cleared slots ns = fold (λ left n. slice_set left n None) slots ns
