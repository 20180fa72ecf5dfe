use Rattle.std.proofs.Common.{rules, ◌∙◌, pos, ◌-ℤ◌, FitsSigned, to_z-of_z}
use mir.Syntax.{w128}
use Rattle.linear_ints.proofs.Descents.{gap-at}
use Rattle.linear_ints.proofs.descend.gap_stop.Goals as goal

pub place_of-place-requires : goal.place_of-place-requires
place_of-place-requires c = c.requires.stage

pub values_of_two-requires-clause-low : goal.values_of_two-requires-clause-low
values_of_two-requires-clause-low c = c.requires.low_row

pub values_of_two-requires-clause-high : goal.values_of_two-requires-clause-high
values_of_two-requires-clause-high c = c.requires.high_row

pub returns : goal.returns
returns c =
    let f : FitsSigned w128 c.minus-at.result = search rules in
    gap-at c.args.rows.now c.args.tableau.now c.args.stage c.args.values.now c.args.low.now.row c.args.low.now.value c.args.high.now.row (pos 0 -ℤ c.args.high.now.value) _ c.place_of-place.result c.in-Ok.values c.requires.elimination c.requires.left c.requires.stage c.requires.descent c.requires.bounds c.requires.gap
    (to_z-of_z f ∙ c.minus-at.ensures) c.place_of-place.ensures c.in-Ok.ensures
