use Rattle.std.proofs.Common.{◌≡◌, drop}
use Rattle.std.specs.List.{list_all}
use Rattle.lazy_ground.specs.Equal.{fits}
use Rattle.lazy_ground.proofs.equal.are_within.Given as goal

abbrev pub invariant-loop-tuple : goal.invariant-loop-tuple
invariant-loop-tuple l = list_all (fits l.columns) (drop l.tuple-index l.tuples) ≡ list_all (fits l.columns) l.tuples
