-- The constants that are equal, as a program lists them.
use Rattle.std.specs.Prelude.{ℕ, suc, ltb, ◌==◌, Bool, true, not, cond, ◌&&◌, List, [], ◌∷◌, ◌++◌, slice_index}
use Rattle.std.specs.List.{list_any}
use Rattle.model_back.specs.declared.equals.Equal.{Equal}
use Rattle.ground_problem.specs.Classes.{any_like, firsts, place_like}
use Rattle.ground_problem.specs.Constants.{of_sort}
use Rattle.ground_numbers.specs.Numbers.{Atom, same_atom, has_atom, row_atom}

-- the two constants of an atom, where it is true
abbrev pub equal_of : Bool → Atom → List Equal
equal_of b (same_atom a c) = cond b (record { lesser = a; greater = c } ∷ []) []
equal_of b (has_atom k r u) = []
equal_of b (row_atom r) = []

-- the equal constants of true atoms, in their order; the first atom has this number
abbrev pub equals_from : (ℕ → Bool) → ℕ → List Atom → List Equal
equals_from v n [] = []
equals_from v n (a ∷ more) = equal_of (v n) a ++ equals_from v (suc n) more

-- an equality of two constants is listed
abbrev pub is_listed : List Equal → ℕ → ℕ → Bool
is_listed es a b = list_any (λ e. (e.lesser == a) && (e.greater == b)) es

-- two constants are one, or are listed
abbrev pub alike_by : List Equal → ℕ → ℕ → Bool
alike_by es a b = cond (a == b) true (cond (ltb a b) (is_listed es a b) (is_listed es b a))

-- the classes with that of a constant, where it is of the sort and equal to none of them
abbrev pub with_class : (ℕ → ℕ → Bool) → Bool → ℕ → List ℕ → List ℕ
with_class like own c cs = cond (own && not (any_like like c cs)) (cs ++ c ∷ []) cs

-- the classes of a sort, each by its first constant
abbrev pub classes_by : (ℕ → ℕ → Bool) → List ℕ → ℕ → List ℕ
classes_by like sorts s = firsts like [] (of_sort 0 sorts s)

-- the element of a constant: the place of its class among those of its sort
abbrev pub element_by : (ℕ → ℕ → Bool) → List ℕ → ℕ → ℕ
element_by like sorts c = place_like like c (classes_by like sorts (slice_index sorts c))
