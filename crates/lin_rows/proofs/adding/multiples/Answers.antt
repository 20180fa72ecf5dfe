use Rattle.std.proofs.Common.{◌≡◌, ℤ, Option, Some, ap, sym, subst, ◌∙◌}
use Rattle.std.specs.Option.{option_and_then}
use Rattle.lin_rows.specs.Answers.{Gives}
use Rattle.lin_rows.specs.Rows.{Row}
use Rattle.lin_rows.specs.Sums.{times_row, plus_row}
use Rattle.lin_rows.proofs.Ones.{times_row-one}
use Rattle.lin_rows.proofs.adding.multiples.Goals as goal

pub returns-then-is_one-clause-sum : goal.returns-then-is_one-clause-sum
returns-then-is_one-clause-sum c =
    let e : times_row c.args.first.now c.args.left.now ≡ Some c.args.left.now =
    ap (λ (z : ℤ). times_row z c.args.left.now) (c.is_one.ensures c.if-is_one.true) ∙ times_row-one c.args.left.now c.law_row.ensures in
    subst (λ (z : Option Row). Gives c.plus_multiple.result (option_and_then (λ p. option_and_then (λ q. plus_row p q) (times_row c.args.second.now c.args.right.now)) z)) (sym e) c.plus_multiple.ensures.sum
