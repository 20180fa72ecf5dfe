-- Which places a row names.
use Rattle.std.specs.Prelude.{ℕ, ◌==◌, Bool}
use Rattle.std.specs.List.{list_any}
use Rattle.lin_rows.specs.Rows.{Row}

-- a row has a term at a place
abbrev pub names : ℕ → Row → Bool
names q r = list_any (λ t. t.place == q) r.terms
