use Rattle.std.proofs.Common.{◌≡◌, map, take}
use Rattle.lin_rows.specs.Rows.{point_of}
use Rattle.linear_ints.proofs.descend.values_at.Given as goal

abbrev pub invariant-loop-name : goal.invariant-loop-name
invariant-loop-name l = l.list ≡ map (point_of l.values) (take l.name-index l.names)
