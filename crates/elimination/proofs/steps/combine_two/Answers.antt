use Rattle.std.proofs.Common.{sym, ◌∙◌, subst, List, length, ◌<◌, ◌<ℤ◌, pos}
use Rattle.lin_rows.specs.Rows.{Row, coefficient_at}
use Rattle.lin_rows.specs.Cancelling.{combined}
use Rattle.elimination.proofs.SideLemmas.{indexed}
use Rattle.elimination.proofs.Product.{product}
use Rattle.elimination.proofs.steps.combine_two.Goals as goal

pub bounds-held-upper : goal.bounds-held-upper
bounds-held-upper c = subst (λ (l : List Row). c.args.upper < length l) (sym c.as_slice-held.ensures) c.requires.meet.high_below

pub bounds-held-lower : goal.bounds-held-lower
bounds-held-lower c = subst (λ (l : List Row). c.args.lower < length l) (sym c.as_slice-held.ensures) c.requires.meet.low_below

pub combine-requires-clause-left : goal.combine-requires-clause-left
combine-requires-clause-left c =
    subst (λ (r : Row). pos 0 <ℤ coefficient_at r.terms c.args.place)
    (sym (indexed c.args.tableau.now.held c.as_slice-held.result.now c.args.upper c.index-held-upper.result c.as_slice-held.ensures c.requires.meet.high_below c.index-held-upper.is)) c.requires.meet.high_sign

pub combine-requires-clause-right : goal.combine-requires-clause-right
combine-requires-clause-right c =
    subst (λ (r : Row). coefficient_at r.terms c.args.place <ℤ pos 0)
    (sym (indexed c.args.tableau.now.held c.as_slice-held.result.now c.args.lower c.index-held-lower.result c.as_slice-held.ensures c.requires.meet.low_below c.index-held-lower.is)) c.requires.meet.low_sign

pub hold_sum-requires-clause-sum : goal.hold_sum-requires-clause-sum
hold_sum-requires-clause-sum c =
    let u = indexed c.args.tableau.now.held c.as_slice-held.result.now c.args.upper c.index-held-upper.result c.as_slice-held.ensures c.requires.meet.high_below c.index-held-upper.is in
    let v = indexed c.args.tableau.now.held c.as_slice-held.result.now c.args.lower c.index-held-lower.result c.as_slice-held.ensures c.requires.meet.low_below c.index-held-lower.is in
    sym (λ i. combined (u i) (v i) c.args.place) ∙ c.in-Ok.ensures.combined

pub returns-in-Err-Range : goal.returns-in-Err-Range
returns-in-Err-Range c =
    let u = indexed c.args.tableau.now.held c.as_slice-held.result.now c.args.upper c.index-held-upper.result c.as_slice-held.ensures c.requires.meet.high_below c.index-held-upper.is in
    let v = indexed c.args.tableau.now.held c.as_slice-held.result.now c.args.lower c.index-held-lower.result c.as_slice-held.ensures c.requires.meet.low_below c.index-held-lower.is in
    let h = rw c.in-Err-Range.field-0-is at c.in-Err-Range.ensures.combined in
    product c.args.rows.now c.args.tableau.now c.args.place c.args.upper c.args.lower c.requires.tableau.run c.requires.meet (sym (λ i. combined (u i) (v i) c.args.place) ∙ h)
