use Rattle.std.proofs.Common.{◌<◌, ◌≤◌, length, sym, ◌∙◌, arith}
use Rattle.sat_core.proofs.Units.{none_open-at, first_open-at}
use Rattle.sat_core.proofs.finding.unit_literal.Goals as goal

pub returns-else-is_unit : goal.returns-else-is_unit
returns-else-is_unit c =
    let l : c.loop-lit.lit-index < length c.args.lits.now = omega arith in
    first_open-at c.args.trail.now c.args.lits.now c.loop-lit.lit-index _ l (sym c.negates.ensures ∙ c.if-not-negates.true) (sym c.is_unit.ensures ∙ c.if-is_unit.false)

pub returns : goal.returns
returns c =
    let l : length c.args.lits.now ≤ c.loop-lit.lit-index = omega arith in
    none_open-at c.args.trail.now c.args.lits.now c.loop-lit.lit-index l c.loop-lit.invariant
