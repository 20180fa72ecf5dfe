use Rattle.std.proofs.Common.{◌≡◌, ◌++◌}
use Rattle.std.specs.List.{flat_map}
use Rattle.spec_core.specs.World.{below}
use Rattle.obligation_list.specs.Obligations.{safety_of}
use Rattle.obligation_list.proofs.listing.add_all_safety.Given as goal

abbrev pub invariant-loop-op : goal.invariant-loop-op
invariant-loop-op l = l.list ≡ l.fn.list ++ flat_map (safety_of l.spec) (below l.op)
