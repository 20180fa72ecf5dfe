use Rattle.std.proofs.Common.{arith}
use Rattle.elimination.proofs.Passes.{grown-start, upper-more, upper-meets}
use Rattle.elimination.proofs.steps.combine_all.Goals as goal

pub loop-upper-init : goal.loop-upper-init
loop-upper-init c = (grown-start c.args.rows.now c.args.tableau.now c.requires.tableau, λ a b h j. absurd (omega arith))

pub combine_one-requires-clause-tableau : goal.combine_one-requires-clause-tableau
combine_one-requires-clause-tableau c = c.loop-upper.invariant.0.tableau

pub combine_one-requires-clause-meet : goal.combine_one-requires-clause-meet
combine_one-requires-clause-meet c =
    upper-meets c.args.rows.now c.args.tableau.now c.loop-upper.tableau c.args.place c.args.uppers.now c.args.lowers.now c.loop-upper.upper-index c.requires.meet c.loop-upper-test.true c.loop-upper.invariant.0

pub loop-upper-preserved : goal.loop-upper-preserved
loop-upper-preserved c =
    upper-more c.args.rows.now c.args.tableau.now c.loop-upper.tableau c.combine_one.new.tableau c.args.place c.args.uppers.now c.args.lowers.now c.loop-upper.upper-index c.requires.meet c.loop-upper-test.true c.loop-upper.invariant.0 c.loop-upper.invariant.1
    c.in-Ok.ensures

pub returns : goal.returns
returns c = (c.loop-upper.invariant.0, λ a b h j. c.loop-upper.invariant.1 a b (omega arith) j)
