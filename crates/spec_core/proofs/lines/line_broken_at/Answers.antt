use Rattle.std.proofs.Common.{not, sym, ◌∙◌, ap, arith}
use Rattle.spec_core.specs.Line.{Line}
use Rattle.spec_core.specs.Truth.{line_true}
use Rattle.spec_core.specs.Fits.{line_fits}
use Rattle.spec_core.proofs.Lists.{list_all-within}
use Rattle.spec_core.proofs.Positions.{position_here, position_later, position_past}
use Rattle.spec_core.proofs.lines.line_broken_at.Goals as goal

pub line_holds-requires-clause-fits : goal.line_holds-requires-clause-fits
line_holds-requires-clause-fits g c =
    let f = line_fits c.args.spec.now c.args.world.now c.args.args.now in
    ap f c.index-lines-i.is ∙ list_all-within f c.args.lines.now c.requires.fits c.loop-i.i c.index-lines-i.result c.loop-i-test.true

pub returns-then-not-line_holds : goal.returns-then-not-line_holds
returns-then-not-line_holds g c =
    let p = λ (l : Line). not (line_true c.args.world.now (g.R.Readings.reads c.args.at.now) c.args.args.now l) in
    sym (c.loop-i.invariant ∙ position_here p c.args.lines.now c.loop-i.i c.index-lines-i.result c.loop-i-test.true (ap p (sym c.index-lines-i.is) ∙ ap not (sym c.line_holds.ensures ∙ c.if-not-line_holds.true)))

pub returns : goal.returns
returns g c =
    let p = λ (l : Line). not (line_true c.args.world.now (g.R.Readings.reads c.args.at.now) c.args.args.now l) in
    sym (c.loop-i.invariant ∙ position_past p c.args.lines.now c.loop-i.i c.loop-i.i (omega (arith, c.loop-i-test.false)))

pub loop-i-preserved : goal.loop-i-preserved
loop-i-preserved g c =
    let p = λ (l : Line). not (line_true c.args.world.now (g.R.Readings.reads c.args.at.now) c.args.args.now l) in
    c.loop-i.invariant ∙ position_later p c.args.lines.now c.loop-i.i c.index-lines-i.result c.loop-i-test.true (ap p (sym c.index-lines-i.is) ∙ ap not (sym c.line_holds.ensures ∙ c.if-not-line_holds.false))
