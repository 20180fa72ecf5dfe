use Rattle.std.proofs.Common.{◌≡◌, map, take}
use Rattle.lin_rows.specs.Divisors.{tightened}
use Rattle.line_rows.proofs.steps.all_tightened.Given as goal

abbrev pub invariant-loop-row : goal.invariant-loop-row
invariant-loop-row l = l.rows.items ≡ map tightened (take l.row-index l.given)
