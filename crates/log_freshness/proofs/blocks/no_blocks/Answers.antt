use Rattle.log_freshness.proofs.Masks.{none-in_blocks}
use Rattle.log_freshness.proofs.blocks.no_blocks.Goals as goal

pub returns : goal.returns
returns c = none-in_blocks c.args.count _ c.new.ensures.items c.in_ok-empty_block.ensures
