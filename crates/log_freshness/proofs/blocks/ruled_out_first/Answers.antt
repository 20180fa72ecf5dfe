use Rattle.log_freshness.proofs.Masks.{rules-or}
use Rattle.log_freshness.proofs.blocks.ruled_out_first.Goals as goal

pub returns-then-out : goal.returns-then-out
returns-then-out c = rules-or c.args.marks.now c.args.masks.now c.loop-i.out c.ruled_out_at-out.result c.loop-i.invariant c.ruled_out_at-out.ensures

pub loop-i-preserved : goal.loop-i-preserved
loop-i-preserved c = rules-or c.args.marks.now c.args.masks.now c.loop-i.out c.ruled_out_at-out.result c.loop-i.invariant c.ruled_out_at-out.ensures
