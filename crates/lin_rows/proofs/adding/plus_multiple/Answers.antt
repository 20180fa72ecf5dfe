use Rattle.std.proofs.Common.{◌≡◌, ℤ, Option, Some, ap, sym, subst, ◌∙◌}
use Rattle.std.specs.Option.{option_and_then}
use Rattle.lin_rows.specs.Answers.{Gives}
use Rattle.lin_rows.specs.Rows.{Row}
use Rattle.lin_rows.specs.Sums.{times_row, plus_row}
use Rattle.lin_rows.proofs.Ones.{times_row-one}
use Rattle.lin_rows.proofs.adding.plus_multiple.Goals as goal

pub returns-then-is_one-clause-sum : goal.returns-then-is_one-clause-sum
returns-then-is_one-clause-sum c =
    let e : times_row c.args.second.now c.args.right.now ≡ Some c.args.right.now =
    ap (λ (z : ℤ). times_row z c.args.right.now) (c.is_one.ensures c.if-is_one.true) ∙ times_row-one c.args.right.now c.law_row-2.ensures in
    subst (λ (z : Option Row). Gives c.plus_row.result (option_and_then (λ q. plus_row c.args.left.now q) z)) (sym e) c.plus_row.ensures
