-- One assignment of elements to the variables of a rule.
use Rattle.std.specs.Prelude.{◌≡◌, ℕ, Bool, true, false, not, ◌&&◌, ◌||◌, ◌==◌, List, [], ◌∷◌, map}

-- the variable has this element at each of its places
abbrev pub stands_for : ℕ → ℕ → List ℕ → List ℕ → Bool
stands_for v e [] [] = true
stands_for v e [] (f ∷ fs) = false
stands_for v e (u ∷ us) [] = false
stands_for v e (u ∷ us) (f ∷ fs) = (not (u == v) || (f == e)) && stands_for v e us fs

-- one assignment gives the elements of one list of variables
abbrev pub assigned : List ℕ → List ℕ → Bool
assigned [] [] = true
assigned [] (f ∷ fs) = false
assigned (u ∷ us) [] = false
assigned (u ∷ us) (f ∷ fs) = stands_for u f us fs && assigned us fs

-- one assignment gives the elements of two lists of variables: no variable has two elements, and the lengths agree
abbrev pub one_assignment : List ℕ → List ℕ → List ℕ → List ℕ → Bool
one_assignment [] [] us fs = assigned us fs
one_assignment [] (e ∷ es) us fs = false
one_assignment (v ∷ vs) [] us fs = false
one_assignment (v ∷ vs) (e ∷ es) us fs =
    stands_for v e vs es && stands_for v e us fs && one_assignment vs es us fs

-- an assignment that gives both lists of elements
pub record Assigns (vs es us fs : List ℕ) (value : ℕ → ℕ) : Type 0 where
  pub left : map value vs ≡ es
  pub right : map value us ≡ fs
