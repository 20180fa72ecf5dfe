use Rattle.std.proofs.Common.{◌≡◌, drop, ◌++◌}
use Rattle.std.specs.Option.{option_map}
use Rattle.line_rows.specs.Steps.{lit_rows}
use Rattle.line_rows.proofs.steps.all_rows.Given as goal

abbrev pub invariant-loop-lit : goal.invariant-loop-lit
invariant-loop-lit l = lit_rows l.atoms l.used ≡ option_map (λ more. l.rows.items ++ more) (lit_rows l.atoms (drop l.lit-index l.used))
