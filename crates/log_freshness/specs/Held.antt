-- How much is held.
use Rattle.std.specs.Prelude.{ℕ, ◌+◌, List, [], ◌∷◌, length, Option, Some, None}
use Rattle.proof_lines.specs.declared.clause.Lit.{Lit}

-- the most literals that a store holds, those of dropped clauses among them
abbrev pub most_literals : ℕ
most_literals = 134217728

-- how many literals a clause has; none where it was dropped
abbrev pub size_of : Option (List Lit) → ℕ
size_of (Some c) = length c
size_of None = 0

-- how many literals the clauses have that weren't dropped
abbrev pub live_literals : List (Option (List Lit)) → ℕ
live_literals [] = 0
live_literals (c ∷ cs) = size_of c + live_literals cs
