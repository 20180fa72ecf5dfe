-- Evidence at its end: the last stage of steps, rows that name none of some places, choices put in front of others.
use Rattle.std.specs.Prelude.{ℕ, nat_lt, Bool, ◌&&◌, List, [], ◌∷◌}
use Rattle.std.specs.List.{list_all}
use Rattle.lin_rows.specs.Numbers.{is_zero}
use Rattle.lin_rows.specs.Rows.{Row, coefficient_at}
use Rattle.proof_lines.specs.declared.line.RowStep.{RowStep}
use Rattle.line_rows.specs.Steps.{row_at}
use Rattle.theory_api.specs.Chosen.{Choice}
use Rattle.theory_api.specs.Elimination.{stage}

-- the stage of the last of some steps; a given one where there are none
abbrev pub last_stage : List ℕ → List Row → ℕ → List RowStep → ℕ
last_stage order rows least [] = least
last_stage order rows least (s ∷ steps) =
    last_stage order rows (stage order (row_at rows s.left)) steps

-- the rows of each step are below a number
abbrev pub steps_below : ℕ → List RowStep → Bool
steps_below n steps = list_all (λ s. nat_lt s.left n && nat_lt s.right n) steps

-- a row names none of some names
abbrev pub names_none : List ℕ → Row → Bool
names_none order r = list_all (λ p. is_zero (coefficient_at r.terms p)) order

-- choices in front of earlier ones, latest first
abbrev pub after : List Choice → List Choice → List Choice
after earlier [] = earlier
after earlier (c ∷ choices) = after (c ∷ earlier) choices
