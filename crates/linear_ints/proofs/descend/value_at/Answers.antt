use Rattle.std.proofs.Common.{rules, true, take, length, pos, ◌-ℤ◌, sym, ◌∙◌, FitsSigned, to_z-of_z}
use mir.Syntax.{w128}
use Rattle.elimination.specs.Pairs.{place_at}
use Rattle.linear_ints.proofs.Descents.{bounds-of, bound-in_range, both-attained, crossing, value-chosen}
use Rattle.linear_ints.proofs.descend.value_at.Goals as goal

pub crosses-requires : goal.crosses-requires
crosses-requires c = bound-in_range true (take c.args.stage c.args.tableau.now.order) (place_at c.args.tableau.now.order c.args.stage) c.args.tableau.now.held c.args.values.now (length c.args.tableau.now.held) c.in-Ok-side_bound-2.high.row c.in-Ok-side_bound-2.high.value c.in-Ok-side_bound-2.ensures

pub gap_stop-requires-clause-bounds : goal.gap_stop-requires-clause-bounds
gap_stop-requires-clause-bounds c = (bounds-of c.args.tableau.now c.args.stage c.args.values.now c.in-Ok-side_bound.low.row c.in-Ok-side_bound.low.value c.in-Ok-side_bound-2.high.row c.in-Ok-side_bound-2.high.value c.in-Ok-side_bound.ensures c.in-Ok-side_bound-2.ensures)

pub gap_stop-requires-clause-gap : goal.gap_stop-requires-clause-gap
gap_stop-requires-clause-gap c = (crossing c.in-Ok-side_bound.low.value (pos 0 -ℤ c.in-Ok-side_bound-2.high.value) (sym c.crosses.ensures ∙ c.if-crosses.true))

pub gap_stop-requires-clause-in_range : goal.gap_stop-requires-clause-in_range
gap_stop-requires-clause-in_range c = bound-in_range true (take c.args.stage c.args.tableau.now.order) (place_at c.args.tableau.now.order c.args.stage) c.args.tableau.now.held c.args.values.now (length c.args.tableau.now.held) c.in-Ok-side_bound-2.high.row c.in-Ok-side_bound-2.high.value c.in-Ok-side_bound-2.ensures

pub gap_stop-requires-clause-low_row : goal.gap_stop-requires-clause-low_row
gap_stop-requires-clause-low_row c =
    (both-attained c.args.tableau.now c.args.stage c.args.values.now c.in-Ok-side_bound.low.row c.in-Ok-side_bound.low.value c.in-Ok-side_bound-2.high.row (pos 0 -ℤ c.in-Ok-side_bound-2.high.value) (bounds-of c.args.tableau.now c.args.stage c.args.values.now c.in-Ok-side_bound.low.row c.in-Ok-side_bound.low.value c.in-Ok-side_bound-2.high.row c.in-Ok-side_bound-2.high.value c.in-Ok-side_bound.ensures c.in-Ok-side_bound-2.ensures) (crossing c.in-Ok-side_bound.low.value (pos 0 -ℤ c.in-Ok-side_bound-2.high.value) (sym c.crosses.ensures ∙ c.if-crosses.true))).0.below

pub gap_stop-requires-clause-high_row : goal.gap_stop-requires-clause-high_row
gap_stop-requires-clause-high_row c =
    (both-attained c.args.tableau.now c.args.stage c.args.values.now c.in-Ok-side_bound.low.row c.in-Ok-side_bound.low.value c.in-Ok-side_bound-2.high.row (pos 0 -ℤ c.in-Ok-side_bound-2.high.value) (bounds-of c.args.tableau.now c.args.stage c.args.values.now c.in-Ok-side_bound.low.row c.in-Ok-side_bound.low.value c.in-Ok-side_bound-2.high.row c.in-Ok-side_bound-2.high.value c.in-Ok-side_bound.ensures c.in-Ok-side_bound-2.ensures) (crossing c.in-Ok-side_bound.low.value (pos 0 -ℤ c.in-Ok-side_bound-2.high.value) (sym c.crosses.ensures ∙ c.if-crosses.true))).1.below

pub middle-requires : goal.middle-requires
middle-requires c = bound-in_range true (take c.args.stage c.args.tableau.now.order) (place_at c.args.tableau.now.order c.args.stage) c.args.tableau.now.held c.args.values.now (length c.args.tableau.now.held) c.in-Ok-side_bound-2.high.row c.in-Ok-side_bound-2.high.value c.in-Ok-side_bound-2.ensures

pub returns : goal.returns
returns c =
    let f : FitsSigned w128 c.middle.result = search rules in
    value-chosen c.args.rows.now c.args.tableau.now c.args.stage c.args.values.now c.in-Ok-side_bound.low.row c.in-Ok-side_bound.low.value c.in-Ok-side_bound-2.high.row c.in-Ok-side_bound-2.high.value _ c.requires.elimination c.requires.left c.requires.stage c.requires.descent c.in-Ok-side_bound.ensures c.in-Ok-side_bound-2.ensures
    (sym c.crosses.ensures ∙ c.if-crosses.false) (to_z-of_z f ∙ c.middle.ensures)
