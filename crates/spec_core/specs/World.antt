-- The elements and the tuples of a world.
use Rattle.std.specs.Prelude.{ℕ, zero, suc, List, [], ◌∷◌, ◌++◌, map, slice_index}
use Rattle.spec_core.specs.declared.world.World.{World}

-- how many elements a sort has; they are the numbers below it
abbrev pub size_of : World → ℕ → ℕ
size_of w s = slice_index w.sizes s

-- the numbers below a size, rising
abbrev pub below : ℕ → List ℕ
below zero = []
below (suc n) = below n ++ n ∷ []

-- each element before each tuple
abbrev pub each_before : List ℕ → List (List ℕ) → List (List ℕ)
each_before [] ts = []
each_before (e ∷ es) ts = map (λ t. e ∷ t) ts ++ each_before es ts

-- every list of elements of these sorts, rising, the last place fastest
abbrev pub tuples : World → List ℕ → List (List ℕ)
tuples w [] = [] ∷ []
tuples w (s ∷ ss) = each_before (below (size_of w s)) (tuples w ss)
