use Rattle.std.proofs.Common.{[]}
use Rattle.suggest.specs.Pairs.{pairs_from}
use Rattle.suggest.proofs.Listed.{listed_more}
use Rattle.suggest.proofs.listing.listed_pairs.Goals as goal

pub loop-first-preserved : goal.loop-first-preserved
loop-first-preserved c =
    listed_more (pairs_from c.count_operations-operations.result) [] c.loop-first.pairs c.add_pairs_from.new.pairs c.loop-first.first c.loop-first.invariant c.in_ok-add_pairs_from.ensures
