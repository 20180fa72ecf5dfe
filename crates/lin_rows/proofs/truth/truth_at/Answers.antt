use Rattle.std.proofs.Common.{rules, ◌≡◌, Some}
use Rattle.lin_rows.specs.Rows.{truth_at, point_of}
use Rattle.lin_rows.proofs.Points.{truth_at-means}
use Rattle.lin_rows.proofs.truth.truth_at.Goals as goal

pub returns-clause-meaning : goal.returns-clause-meaning
returns-clause-meaning c =
    let e : truth_at (point_of c.args.values.now) c.args.row.now ≡ Some c.is_at_most.result = search rules in
    truth_at-means (point_of c.args.values.now) c.args.row.now c.is_at_most.result e
