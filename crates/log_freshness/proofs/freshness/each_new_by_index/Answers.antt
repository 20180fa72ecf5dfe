use Rattle.log_freshness.proofs.Index.{index-none}
use Rattle.log_freshness.proofs.freshness.each_new_by_index.Goals as goal

pub put_before-requires-clause-fits : goal.put_before-requires-clause-fits
put_before-requires-clause-fits c = record {
  some = c.requires.some;
  listed = c.in_ok-lists.ensures.sized;
  blocks = c.in_ok-blocks.ensures.fits c.args.slots.now;
}

pub put_before-requires-clause-none : goal.put_before-requires-clause-none
put_before-requires-clause-none c = index-none c.args.count c.args.slots.now c.in_ok-lists.lists.items c.in_ok-blocks.blocks c.in_ok-lists.ensures.empty (c.in_ok-blocks.ensures.none c.args.slots.now)
