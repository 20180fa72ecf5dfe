use mir.Val.{to_z, of_z}
use mir.Syntax.{w128}
use Rattle.std.proofs.Common.{rules, ◌≡◌, Some}
use Rattle.lin_rows.specs.Rows.{Row}
use Rattle.lin_rows.specs.Sums.{plus_row}
use Rattle.lin_rows.proofs.Sums.{is_row-plus}
use Rattle.lin_rows.proofs.adding.plus_row.Goals as goal

pub new-requires : goal.new-requires
new-requires c =
    let made : Row = record { terms = c.in_ok-terms.terms; bound = to_z w128 (of_z w128 c.in_ok-bound.bound) } in
    let e : plus_row c.args.left.now c.args.right.now ≡ Some made = search rules in
    is_row-plus c.args.left.now c.args.right.now made c.terms.ensures.row c.terms-2.ensures.row e
