use Rattle.std.proofs.Common.{arith}
use Rattle.elimination.proofs.Passes.{grown-start, lower-more, lower-meets}
use Rattle.elimination.proofs.steps.combine_one.Goals as goal

pub loop-lower-init : goal.loop-lower-init
loop-lower-init c = (grown-start c.args.rows.now c.args.tableau.now c.requires.tableau, λ a b h j. absurd (omega arith))

pub combine_two-requires-clause-tableau : goal.combine_two-requires-clause-tableau
combine_two-requires-clause-tableau c = c.loop-lower.invariant.0.tableau

pub combine_two-requires-clause-meet : goal.combine_two-requires-clause-meet
combine_two-requires-clause-meet c =
    lower-meets c.args.rows.now c.args.tableau.now c.loop-lower.tableau c.args.place c.args.upper c.args.lowers.now c.loop-lower.lower-index c.requires.meet c.loop-lower-test.true c.loop-lower.invariant.0

pub loop-lower-preserved : goal.loop-lower-preserved
loop-lower-preserved c =
    lower-more c.args.rows.now c.args.tableau.now c.loop-lower.tableau c.combine_two.new.tableau c.args.place c.args.upper c.args.lowers.now c.loop-lower.lower-index c.requires.meet c.loop-lower-test.true c.loop-lower.invariant.0 c.loop-lower.invariant.1
    c.in-Ok.ensures

pub returns : goal.returns
returns c = (c.loop-lower.invariant.0, λ a b h j. c.loop-lower.invariant.1 a b h (omega arith))
