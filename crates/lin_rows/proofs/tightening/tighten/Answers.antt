use mir.Val.{to_z, of_z}
use mir.Syntax.{w128}
use Rattle.std.proofs.Common.{rules, ◌≡◌, true, false, pos, subst, sym}
use Rattle.lin_rows.specs.Rows.{Row, is_row, has_no_terms}
use Rattle.lin_rows.specs.Divisors.{tightened, divided, divisor_of}
use Rattle.lin_rows.proofs.Rounding.{is_row-divided, same_points-tightened}
use Rattle.lin_rows.proofs.tightening.tighten.Goals as goal

pub new-requires : goal.new-requires
new-requires c =
    let n : has_no_terms c.args.row.now.terms ≡ false = search rules in
    let made : Row = record { terms = c.in_ok-terms.terms; bound = to_z w128 (of_z w128 c.rounded_down.result) } in
    let e : made ≡ divided (pos (divisor_of c.args.row.now.terms)) c.args.row.now = search rules in
    subst (λ (z : Row). is_row z ≡ true) (sym e) (is_row-divided c.args.row.now n c.terms.ensures.row)

pub returns-clause-same_points : goal.returns-clause-same_points
returns-clause-same_points c =
    let e : c.new.result ≡ tightened c.args.row.now = search rules in
    same_points-tightened c.args.row.now c.new.result c.terms.ensures.row e
