use Rattle.std.proofs.Common.{◌≡◌}
use Rattle.std.specs.List.{flat_map}
use Rattle.spec_core.specs.World.{below}
use Rattle.suggest.specs.Pairs.{pairs_from}
use Rattle.suggest.proofs.listing.listed_pairs.Given as goal

abbrev pub invariant-loop-first : goal.invariant-loop-first
invariant-loop-first l = l.pairs ≡ flat_map (pairs_from l.operations) (below l.first)
