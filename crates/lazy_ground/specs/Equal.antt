-- The equality of two constants and of two tuples, over the numbers that a table has. It mirrors the code.
use Rattle.std.specs.Prelude.{ℕ, ltb, ◌==◌, Bool, true, false, cond, ◌&&◌, List, [], ◌∷◌}
use Rattle.std.specs.List.{list_all, list_any}
use Rattle.ground_numbers.specs.Numbered.{Numbered, known, literal}
use Rattle.ground_numbers.specs.Numbers.{Table, same_atom, has_number}
use Rattle.lazy_ground.specs.declared.equal.ConstEquality.{ConstEquality}
use Rattle.lazy_ground.specs.declared.equal.ConstEquality.TheVariants as equality

-- the equality of two constants: true of one constant with itself, and else an atom
abbrev pub equality_form : ConstEquality → Numbered
equality_form equality.Same = known true
equality_form (equality.Atom n) = literal n true

-- the equality of two constants has a number; that of a constant with itself needs none
abbrev pub equality_known : Table → ℕ → ℕ → Bool
equality_known o a b =
    cond (a == b) true (cond (ltb a b) (has_number o (same_atom a b)) (has_number o (same_atom b a)))

-- each two of these constants have it, the earlier with the later
abbrev pub all_known : Table → List ℕ → Bool
all_known o [] = true
all_known o (c ∷ cs) = list_all (equality_known o c) cs && all_known o cs

-- a tuple has as many places as there are lists, and at each place one of that list
abbrev pub fits : List (List ℕ) → List ℕ → Bool
fits [] [] = true
fits [] (x ∷ xs) = false
fits (cs ∷ columns) [] = false
fits (cs ∷ columns) (x ∷ xs) = list_any (λ c. c == x) cs && fits columns xs
