use Rattle.std.proofs.Common.{◌≡◌, ◌++◌}
use Rattle.std.specs.Prelude.{nat_le}
use Rattle.std.specs.List.{filter, flat_map}
use Rattle.spec_core.specs.World.{below}
use Rattle.obligation_list.specs.Obligations.{commute_of}
use Rattle.obligation_list.proofs.listing.add_commute_from.Given as goal

abbrev pub invariant-loop-second : goal.invariant-loop-second
invariant-loop-second l = l.list ≡ l.fn.list ++ flat_map (commute_of l.spec l.first) (filter (nat_le l.first) (below l.second))
