use Rattle.diff_bounds.proofs.Edging.{edges-next}
use Rattle.diff_bounds.proofs.edges.edges_of.Goals as goal

pub loop-number-preserved : goal.loop-number-preserved
loop-number-preserved c = edges-next c.args.ints c.args.rows.now c.loop-number.number c.loop-number.edges.items c.in_ok-edge.edge c.index-rows-number.result c.push.new.self.items c.loop-number.invariant c.loop-number-test.true c.index-rows-number.is c.in_ok-edge.ensures c.in_ok-push.ensures.items
