use Rattle.std.proofs.Common.{[]}
use Rattle.suggest.specs.Pairs.{keys_from}
use Rattle.suggest.proofs.Listed.{listed_more}
use Rattle.suggest.proofs.listing.listed_keys.Goals as goal

pub loop-p-preserved : goal.loop-p-preserved
loop-p-preserved c =
    listed_more (keys_from c.args.spec.now c.args.pair.first c.args.pair.second) [] c.loop-p.keys c.add_keys_from.new.keys c.loop-p.p c.loop-p.invariant c.in_ok-add_keys_from.ensures
