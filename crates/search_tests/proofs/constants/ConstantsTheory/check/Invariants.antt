use Rattle.std.proofs.Common.{◌≡◌, take, true, not}
use Rattle.std.specs.List.{list_all}
use Rattle.lin_rows.specs.Rows.{is_contradiction}
use Rattle.search_tests.proofs.constants.ConstantsTheory.check.Given as goal

abbrev pub invariant-loop-row : goal.invariant-loop-row
invariant-loop-row l = (l.number ≡ l.row-index) × (list_all (λ r. not (is_contradiction r)) (take l.row-index l.rows) ≡ true)
