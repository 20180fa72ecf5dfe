use Rattle.std.proofs.Common.{◌≡◌, drop}
use Rattle.std.specs.List.{list_all}
use Rattle.lazy_ground.specs.Equal.{equality_known}
use Rattle.lazy_ground.proofs.equal.are_known_with.Given as goal

abbrev pub invariant-loop-other : goal.invariant-loop-other
invariant-loop-other l = list_all (equality_known l.atoms.table l.constant) (drop l.other-index l.constants) ≡ list_all (equality_known l.atoms.table l.constant) l.constants
