use Rattle.std.proofs.Common.{rules, ◌≡◌, Some}
use Rattle.lin_rows.specs.Sums.{row_sum}
use Rattle.lin_rows.specs.Cancelling.{first_factor, second_factor}
use Rattle.lin_rows.proofs.CancellingLemmas.{coefficient_at-combined}
use Rattle.lin_rows.proofs.combining.combine.Goals as goal

pub returns-clause-cancels : goal.returns-clause-cancels
returns-clause-cancels c =
    let e : row_sum c.args.left.now (first_factor c.args.left.now c.args.right.now c.args.place) c.args.right.now (second_factor c.args.left.now c.args.right.now c.args.place) ≡ Some c.in_ok-row.row = search rules in
    coefficient_at-combined c.args.left.now c.args.right.now c.args.place c.in_ok-row.row c.least_factors-first.ensures.left_row c.least_factors-first.ensures.right_row c.requires.left c.requires.right e
