use Rattle.std.proofs.Common.{◌≡◌, take, true}
use Rattle.std.specs.List.{list_all}
use Rattle.lin_rows.specs.Rows.{is_row}
use Rattle.theory_api.proofs.refuting.law_rows.Given as goal

abbrev pub invariant-loop-row : goal.invariant-loop-row
invariant-loop-row l = list_all is_row (take l.row-index l.rows) ≡ true
