use mir.Val.{to_z, of_z}
use mir.Syntax.{w128}
use Rattle.std.proofs.Common.{rules, ◌≡◌, Some}
use Rattle.lin_rows.specs.Rows.{Row}
use Rattle.lin_rows.specs.Sums.{times_row}
use Rattle.lin_rows.proofs.Sums.{is_row-times}
use Rattle.lin_rows.proofs.adding.times_row.Goals as goal

pub new-requires : goal.new-requires
new-requires c =
    let made : Row = record { terms = c.in_ok-terms.terms; bound = to_z w128 (of_z w128 c.in_ok-bound.bound) } in
    let e : times_row c.args.by.now c.args.row.now ≡ Some made = search rules in
    is_row-times c.args.by.now c.args.row.now made c.terms.ensures.row e
