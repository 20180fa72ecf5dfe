use Rattle.std.proofs.Common.{sym, ◌∙◌}
use Rattle.unit_propagation.proofs.Steady.{steady-moved, steady-both, two_open, false-others, unit_first, unit_second}
use Rattle.unit_propagation.proofs.looking.look_past.Goals as goal

pub returns-then-negates-clause-look : goal.returns-then-negates-clause-look
returns-then-negates-clause-look c = false-others c.args.trail.now c.args.lits.now c.args.pair.second c.in_default.ensures (sym c.negates.ensures ∙ c.if-negates.true)

pub returns-in_default-clause-look : goal.returns-in_default-clause-look
returns-in_default-clause-look c = unit_second c.args.trail.now c.args.lits.now c.args.pair c.requires.second c.in_default.ensures c.requires.second_not_true (sym c.negates.ensures ∙ c.if-negates.false)

pub returns-then-rests-clause-steady : goal.returns-then-rests-clause-steady
returns-then-rests-clause-steady c = steady-moved c.args.trail.now c.args.pair c.in-Some.one c.requires.first_not_true c.in-Some.ensures.1 c.in-Some.ensures.2

pub returns-then-rests-clause-look : goal.returns-then-rests-clause-look
returns-then-rests-clause-look c = sym c.rests.ensures ∙ c.if-rests.true

pub returns-in-Some-open_beside-clause-steady : goal.returns-in-Some-open_beside-clause-steady
returns-in-Some-open_beside-clause-steady c =
    let e = c.in-Some.ensures in
    let f = c.in-Some-open_beside.ensures in
    steady-both c.args.trail.now c.args.pair c.in-Some.one c.in-Some-open_beside.two c.requires.first_not_true c.requires.second_not_true e.1 e.2 f.1 f.2

pub returns-in-Some-open_beside-clause-look : goal.returns-in-Some-open_beside-clause-look
returns-in-Some-open_beside-clause-look c = two_open c.args.trail.now c.in-Some.one c.in-Some-open_beside.two c.in-Some-open_beside.ensures.2 c.in-Some.ensures.1 c.in-Some-open_beside.ensures.1

pub returns-in-None-clause-steady : goal.returns-in-None-clause-steady
returns-in-None-clause-steady c = steady-moved c.args.trail.now c.args.pair c.in-Some.one c.requires.first_not_true c.in-Some.ensures.1 c.in-Some.ensures.2

pub returns-in-None-clause-look : goal.returns-in-None-clause-look
returns-in-None-clause-look c =
    unit_first c.args.trail.now c.args.lits.now (record { first = c.in-Some.one; second = c.args.pair.second }) c.in-Some.ensures.0 c.in-None.ensures (sym c.rests.ensures ∙ c.if-rests.false) c.in-Some.ensures.1
