use Rattle.std.proofs.Common.{◌≡◌, take, true}
use Rattle.lin_rows.specs.Rows.{point_of}
use Rattle.theory_api.specs.Laws.{all_satisfied}
use Rattle.linear_ints.proofs.solver.satisfies_all.Given as goal

abbrev pub invariant-loop-row : goal.invariant-loop-row
invariant-loop-row l = all_satisfied (point_of l.values) (take l.row-index l.rows) ≡ true
