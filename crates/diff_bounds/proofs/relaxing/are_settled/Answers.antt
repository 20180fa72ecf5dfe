use Rattle.diff_bounds.proofs.RelaxingLemmas.{settled-more}
use Rattle.diff_bounds.proofs.relaxing.are_settled.Goals as goal

pub loop-number-preserved : goal.loop-number-preserved
loop-number-preserved c = settled-more c.args.walks.now c.args.edges.now c.loop-number.number c.loop-number.invariant c.in-None.ensures
