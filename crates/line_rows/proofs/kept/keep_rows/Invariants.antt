use Rattle.std.proofs.Common.{◌≡◌, List, ◌++◌, drop}
use Rattle.std.specs.Option.{option_map}
use Rattle.lin_rows.specs.Rows.{Row}
use Rattle.line_rows.specs.Steps.{lit_rows}
use Rattle.line_rows.specs.Kept.{KeptUntil}
use Rattle.line_rows.proofs.kept.keep_rows.Given as goal

abbrev pub invariant-loop-lit : goal.invariant-loop-lit
invariant-loop-lit l =
    (now : List Row) × (lit_rows l.atoms l.used ≡ option_map (λ more. now ++ more) (lit_rows l.atoms (drop l.lit-index l.used))) × KeptUntil now l.ends 0 l.rows.items
