-- Groundings: lists of formulas that are made up to a limit.
use Rattle.std.specs.Prelude.{◌≡◌, ℕ, ◌<◌, ◌≤◌, ltb, true, false, cond, Option, Some, None, Result, Ok, Err, List, [], ◌∷◌, ◌++◌, length, map}
use Rattle.ground_problem.specs.Symbols.{Symbolic}
use Rattle.ground_problem.specs.Problem.{most_formulas}
use Rattle.ground_numbers.specs.Numbered.{Numbered}
use Rattle.ground_atoms.specs.Known.{Known}
use Rattle.ground_atoms.specs.Making.{MadeList, make}
use Rattle.ground_atoms.specs.Formulas.{form_of}
use Rattle.ground_groups.specs.declared.grounding.Grounding.{Grounding}
use Rattle.ground_groups.specs.declared.refused.GroundRefused.{GroundRefused}
use Rattle.ground_groups.specs.declared.refused.GroundRefused.TheVariants.{TooMany, Memory}

-- these formulas, after those so far, where there are no more than that together
abbrev pub make_upto : List Numbered → Known → List Symbolic → Option MadeList
make_upto so_far k [] = Some (record { known = k; forms = so_far })
make_upto so_far k (f ∷ fs) =
    cond (ltb (length so_far) most_formulas)
    (make_upto (so_far ++ (make k f).form ∷ []) (make k f).known fs)
    None

-- what is known in a grounding, and its formulas over numbers
abbrev pub made_in : Grounding → MadeList
made_in g = record { known = g.atoms; forms = map form_of g.formulas }

-- these formulas, after those of a grounding
abbrev pub made_with : Grounding → List Symbolic → Option MadeList
made_with g fs = make_upto (map form_of g.formulas) g.atoms fs

-- a call appends these formulas to a grounding: too many comes exactly where there are more, and want of memory at any time
abbrev pub Appends : {A : Type 0} → Result A GroundRefused → Grounding → List Symbolic → Grounding
    → Type 0
Appends (Ok value) old fs new = made_with old fs ≡ Some (made_in new)
Appends (Err TooMany) old fs new = made_with old fs ≡ None
Appends (Err Memory) old fs new = Unit {0}

-- a call leaves these formulas and no others, where so much was known before the first one
abbrev pub Makes : {A : Type 0} → Result A GroundRefused → Known → List Symbolic → Grounding
    → Type 0
Makes (Ok value) k fs new = make_upto [] k fs ≡ Some (made_in new)
Makes (Err TooMany) k fs new = make_upto [] k fs ≡ None
Makes (Err Memory) k fs new = Unit {0}

-- room for one more
abbrev pub HasRoom : Result (Unit {0}) GroundRefused → ℕ → Type 0
HasRoom (Ok value) n = ltb n most_formulas ≡ true
HasRoom (Err TooMany) n = ltb n most_formulas ≡ false
HasRoom (Err Memory) n = ⊥

-- whether so many fit into the room that is left; where they don't, there are more
abbrev pub HasRoomFor : Result (Unit {0}) GroundRefused → ℕ → ℕ → Type 0
HasRoomFor (Ok value) room n = Unit {0}
HasRoomFor (Err TooMany) room n = room < n
HasRoomFor (Err Memory) room n = Unit {0}

-- whether so many are within the limit
abbrev pub IsWithin : Result (Unit {0}) GroundRefused → ℕ → Type 0
IsWithin (Ok value) n = n ≤ most_formulas
IsWithin (Err TooMany) n = most_formulas < n
IsWithin (Err Memory) n = ⊥
