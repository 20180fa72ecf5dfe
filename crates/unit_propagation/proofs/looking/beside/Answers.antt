use Rattle.proof_lines.specs.Clauses.{flip}
use Rattle.unit_propagation.proofs.Steady.{apart-turned, out-last, steady-apart, steady-others}
use Rattle.unit_propagation.proofs.looking.beside.Goals as goal

pub returns-in-Some-clause-steady : goal.returns-in-Some-clause-steady
returns-in-Some-clause-steady c =
    let t = c.args.trail.now in
    let e = c.in-Some.ensures in
    steady-apart t c.args.one c.in-Some.two (apart-turned c.in-Some.two c.args.one e.2) (out-last t (flip c.args.one) c.requires.open) (out-last t (flip c.in-Some.two) e.1)

pub returns-in-Some-open_before_beside-clause-steady : goal.returns-in-Some-open_before_beside-clause-steady
returns-in-Some-open_before_beside-clause-steady c =
    let t = c.args.trail.now in
    let e = c.in-Some-open_before_beside.ensures in
    steady-apart t c.args.one c.in-Some-open_before_beside.other (apart-turned c.in-Some-open_before_beside.other c.args.one e.2) (out-last t (flip c.args.one) c.requires.open) e.1

pub returns-in-None-clause-steady : goal.returns-in-None-clause-steady
returns-in-None-clause-steady c = steady-others c.args.trail.now c.args.lits.now c.args.one c.args.one c.requires.set c.requires.wide c.in-None.ensures
