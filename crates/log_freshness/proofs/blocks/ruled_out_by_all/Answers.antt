use Rattle.log_freshness.proofs.Masks.{rules-or}
use Rattle.log_freshness.proofs.blocks.ruled_out_by_all.Goals as goal

pub returns-then-out : goal.returns-then-out
returns-then-out c = rules-or c.args.marks.now c.args.masks.now c.loop-at.out c.ruled_out_at.result c.loop-at.invariant c.ruled_out_at.ensures

pub loop-at-preserved : goal.loop-at-preserved
loop-at-preserved c = rules-or c.args.marks.now c.args.masks.now c.loop-at.out c.ruled_out_at.result c.loop-at.invariant c.ruled_out_at.ensures
