-- Clauses by their numbers, of which some were dropped, and when a clause is new among earlier ones.
use Rattle.std.specs.Prelude.{Bool, true, not, ◌&&◌, List, [], ◌∷◌, ◌++◌, Option, Some, None}
use Rattle.std.specs.List.{list_any}
use Rattle.proof_lines.specs.declared.clause.Lit.{Lit}
use Rattle.proof_lines.specs.Clauses.{sub, is_empty, holds_both_ways}

-- the clauses that weren't dropped, in the order of their numbers
abbrev pub live_of : List (Option (List Lit)) → List (List Lit)
live_of [] = []
live_of (Some c ∷ slots) = c ∷ live_of slots
live_of (None ∷ slots) = live_of slots

-- a clause is new among earlier ones: it contains none of them, holds no atom both ways and isn't empty
abbrev pub is_new : List (List Lit) → List Lit → Bool
is_new earlier c =
    not (list_any (λ d. sub d c) earlier) && (not (holds_both_ways c) && not (is_empty c))

-- each clause is new among the earlier ones and those before it
abbrev pub each_new : List (List Lit) → List (List Lit) → Bool
each_new earlier [] = true
each_new earlier (c ∷ cs) = is_new earlier c && each_new (earlier ++ c ∷ []) cs
