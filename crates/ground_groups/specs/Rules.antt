-- Conflict rules at takes lines, as a program goes over them.
use Rattle.std.specs.Prelude.{ℕ, ◌==◌, Bool, cond, List, [], ◌∷◌, ◌++◌}
use Rattle.std.specs.List.{list_any}
use Rattle.spec_core.specs.declared.operation.Take.{Take}
use Rattle.spec_core.specs.declared.spec.Rule.{Rule}
use Rattle.ground_problem.specs.Symbols.{Symbolic}
use Rattle.ground_problem.specs.Formulas.{Caller}
use Rattle.ground_problem.specs.Entry.{same_later, unmatched}

-- a rule with its left pattern at the first line, or at the second where they are swapped
abbrev pub unmatched_as : Bool → Rule → Caller → Take → Caller → Take → List Symbolic
unmatched_as swapped rule a t b u = cond swapped (unmatched rule b u a t) (unmatched rule a t b u)

-- the equalities of each variable's first place with its later ones, after these variables
abbrev pub each_from : List ℕ → List ℕ → List ℕ → List Symbolic
each_from before [] cs = []
each_from before (v ∷ vs) [] = []
each_from before (v ∷ vs) (c ∷ cs) =
    cond (list_any (λ u. v == u) before) [] (same_later v c vs cs)
    ++ each_from (before ++ v ∷ []) vs cs
