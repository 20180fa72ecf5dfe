use Rattle.std.proofs.Common.{◌≡◌}
use Rattle.std.specs.List.{flat_map}
use Rattle.spec_core.specs.World.{below}
use Rattle.suggest.specs.Pairs.{keys_from}
use Rattle.suggest.proofs.listing.listed_keys.Given as goal

abbrev pub invariant-loop-p : goal.invariant-loop-p
invariant-loop-p l = l.keys ≡ flat_map (keys_from l.spec l.pair.first l.pair.second) (below l.p)
