use Rattle.std.proofs.Common.{◌≡◌, take}
use Rattle.std.specs.List.{filter}
use Rattle.suggest.specs.Pairs.{is_of_pair}
use Rattle.suggest.proofs.listing.those_of_pair.Given as goal

abbrev pub invariant-loop-ob : goal.invariant-loop-ob
invariant-loop-ob l = l.listed ≡ filter (is_of_pair l.pair.first l.pair.second) (take l.ob-index l.obligations)
