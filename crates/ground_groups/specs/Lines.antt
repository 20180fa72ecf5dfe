-- Formulas of lines as a program goes over them: with a sign, and the requires lines of a call in any readings.
use Rattle.std.specs.Prelude.{ℕ, ◌+◌, Bool, cond, List, [], ◌∷◌, ◌++◌}
use Rattle.spec_core.specs.Line.{Line}
use Rattle.spec_core.specs.Truth.{is_exists}
use Rattle.ground_problem.specs.Symbols.{Symbolic, negated}
use Rattle.ground_problem.specs.Constants.{Constants}
use Rattle.ground_problem.specs.Formulas.{Caller, Readings, formula, instances}

-- a formula, or that it is false
abbrev pub signed : Bool → Symbolic → Symbolic
signed sign f = cond sign f (negated f)

-- A line: with `exists` at its own constants, else once for each assignment.
abbrev pub line_at : Constants → Readings → Caller → Line → List ℕ → List Symbolic
line_at z r c l own =
    cond (is_exists l.prefix) (formula r c own l.body ∷ []) (instances z r c l.vars l.body)

-- lines with their own constants; the place of the first of them has no meaning
abbrev pub lines_at : Constants → Readings → Caller → ℕ → List Line → List (List ℕ) → List Symbolic
lines_at z r c n [] owns = []
lines_at z r c n (l ∷ ls) [] = []
lines_at z r c n (l ∷ ls) (own ∷ owns) = line_at z r c l own ++ lines_at z r c (n + 1) ls owns
