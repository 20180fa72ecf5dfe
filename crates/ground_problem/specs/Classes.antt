-- The elements that an interpretation gives: classes of equal constants, each by its first one.
use Rattle.std.specs.Prelude.{ℕ, suc, Bool, false, cond, ◌||◌, List, [], ◌∷◌, ◌++◌, slice_index}
use Rattle.ground_problem.specs.Symbols.{Interpretation, is_true, same_const}
use Rattle.ground_problem.specs.Constants.{of_sort}

-- ---- classes

-- whether one of them is like it
abbrev pub any_like : (ℕ → ℕ → Bool) → ℕ → List ℕ → Bool
any_like like c [] = false
any_like like c (x ∷ xs) = like x c || any_like like c xs

-- the first of each class
abbrev pub firsts : (ℕ → ℕ → Bool) → List ℕ → List ℕ → List ℕ
firsts like seen [] = []
firsts like seen (x ∷ xs) =
    cond (any_like like x seen) (firsts like seen xs) (x ∷ firsts like (seen ++ x ∷ []) xs)

-- the place of the first that is like it
abbrev pub place_like : (ℕ → ℕ → Bool) → ℕ → List ℕ → ℕ
place_like like c [] = 0
place_like like c (x ∷ xs) = cond (like x c) 0 (suc (place_like like c xs))

-- ---- elements

-- two constants are equal
abbrev pub alike : Interpretation → ℕ → ℕ → Bool
alike m a b = is_true m (same_const a b)

-- The elements of a sort are the classes of its constants. Each stands for its least constant, and they rise; a sort without
-- constants has none.
abbrev pub classes : Interpretation → List ℕ → ℕ → List ℕ
classes m sorts s = firsts (alike m) [] (of_sort 0 sorts s)

-- the element of a constant
abbrev pub element_of : Interpretation → List ℕ → ℕ → ℕ
element_of m sorts c = place_like (alike m) c (classes m sorts (slice_index sorts c))
