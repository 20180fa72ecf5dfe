-- Lists of numbers by which lines name clauses, rows and integer names.
use Rattle.std.specs.Prelude.{ℕ, ◌==◌, Bool, true, not, ◌&&◌, List, [], ◌∷◌}
use Rattle.std.specs.List.{list_any}

-- a number is one of the list
abbrev pub stands_in : List ℕ → ℕ → Bool
stands_in ns n = list_any (λ m. m == n) ns

-- no number stands in the list twice
abbrev pub are_different : List ℕ → Bool
are_different [] = true
are_different (n ∷ ns) = not (stands_in ns n) && are_different ns
