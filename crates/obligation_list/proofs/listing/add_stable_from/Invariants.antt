use Rattle.std.proofs.Common.{◌≡◌, ◌++◌}
use Rattle.std.specs.List.{flat_map}
use Rattle.spec_core.specs.World.{below}
use Rattle.obligation_list.specs.Obligations.{stable_of}
use Rattle.obligation_list.proofs.listing.add_stable_from.Given as goal

abbrev pub invariant-loop-line : goal.invariant-loop-line
invariant-loop-line l = l.list ≡ l.fn.list ++ flat_map (stable_of l.spec l.op) (below l.line)
