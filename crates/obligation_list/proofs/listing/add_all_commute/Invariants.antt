use Rattle.std.proofs.Common.{◌≡◌, ◌++◌}
use Rattle.std.specs.List.{flat_map}
use Rattle.spec_core.specs.World.{below}
use Rattle.obligation_list.specs.Obligations.{commute_from}
use Rattle.obligation_list.proofs.listing.add_all_commute.Given as goal

abbrev pub invariant-loop-first : goal.invariant-loop-first
invariant-loop-first l = l.list ≡ l.fn.list ++ flat_map (commute_from l.spec) (below l.first)
