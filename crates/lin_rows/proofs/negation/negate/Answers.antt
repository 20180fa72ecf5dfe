use mir.Val.{to_z, of_z}
use mir.Syntax.{w128}
use Rattle.std.proofs.Common.{rules, ◌≡◌, true, Some, subst, sym, List}
use Rattle.lin_rows.specs.declared.term.RowTerm.{RowTerm}
use Rattle.lin_rows.specs.Rows.{Row, negated, all_in_range}
use Rattle.lin_rows.proofs.Points.{satisfies-negated}
use Rattle.lin_rows.proofs.Kept.{rises_of, all_in_range-rises, is_row-negated}
use Rattle.lin_rows.proofs.negation.negate.Goals as goal

pub opposites-requires : goal.opposites-requires
opposites-requires c = subst (λ (ts : List RowTerm). all_in_range ts ≡ true) (sym c.terms.ensures.terms) (all_in_range-rises 0 c.args.row.now.terms (rises_of c.args.row.now c.terms.ensures.row))

pub new-requires : goal.new-requires
new-requires c =
    let made : Row = record { terms = c.in_ok-terms.terms; bound = to_z w128 (of_z w128 c.in_ok-bound.bound) } in
    let e : negated c.args.row.now ≡ Some made = search rules in
    is_row-negated c.args.row.now made c.bound.ensures.row e

pub returns-clause-points : goal.returns-clause-points
returns-clause-points c x =
    let e : negated c.args.row.now ≡ Some c.new.result = search rules in
    satisfies-negated x c.args.row.now c.new.result e
