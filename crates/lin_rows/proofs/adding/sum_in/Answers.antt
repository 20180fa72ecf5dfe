use Rattle.std.proofs.Common.{rules, ◌≡◌, Option, Some, ap, sym, ◌∙◌}
use Rattle.std.specs.Option.{option_map, option_and_then}
use Rattle.lin_rows.specs.Rows.{Row}
use Rattle.lin_rows.specs.Divisors.{tightened}
use Rattle.lin_rows.specs.Sums.{times_row, plus_row, row_sum}
use Rattle.lin_rows.proofs.Sums.{satisfies-sum}
use Rattle.lin_rows.proofs.Ones.{row_sum-is}
use Rattle.lin_rows.proofs.adding.sum_in.Goals as goal

pub returns-clause-sum : goal.returns-clause-sum
returns-clause-sum c =
    let e : option_and_then (λ p. option_and_then (λ q. plus_row p q) (times_row c.args.second c.args.right.now)) (times_row c.args.first c.args.left.now) ≡ Some c.in_ok-sum.sum = search rules in
    row_sum-is c.args.left.now c.args.first c.args.right.now c.args.second
    ∙ ap (λ (o : Option Row). option_map tightened o) e
    ∙ ap (λ (r : Row). Some r) (sym c.in_ok-tighten_own.ensures)

pub returns-clause-points : goal.returns-clause-points
returns-clause-points c x m n =
    let e : row_sum c.args.left.now c.args.first c.args.right.now c.args.second ≡ Some c.in_ok-tighten_own.field-0 = returns-clause-sum c in
    satisfies-sum x c.args.left.now c.args.first c.args.right.now c.args.second c.in_ok-tighten_own.field-0 c.multiples.ensures.left c.multiples.ensures.right c.requires.first c.requires.second e m n
