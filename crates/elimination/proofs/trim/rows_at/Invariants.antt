use Rattle.std.proofs.Common.{◌≡◌, map, take}
use Rattle.line_rows.specs.Steps.{row_at}
use Rattle.elimination.proofs.trim.rows_at.Given as goal

abbrev pub invariant-loop-number : goal.invariant-loop-number
invariant-loop-number l = l.named.items ≡ map (row_at l.rows) (take l.number-index l.used)
