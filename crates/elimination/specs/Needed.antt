-- Which combinations are held. It mirrors src/steps.
use Rattle.std.specs.Prelude.{Bool, not, ◌||◌, List}
use Rattle.std.specs.List.{list_any}
use Rattle.lin_rows.specs.Rows.{Row, has_no_terms, is_contradiction}
use Rattle.line_rows.specs.Evidence.{same_row}

-- a row that is to be held: a contradiction, or a row with terms that isn't held yet
abbrev pub is_needed : List Row → Row → Bool
is_needed held r =
    is_contradiction r || not (has_no_terms r.terms || list_any (λ q. same_row q r) held)
