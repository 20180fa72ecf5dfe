use Rattle.std.proofs.Common.{◌≡◌, drop}
use Rattle.lazy_ground.specs.Named.{rise_from}
use Rattle.lazy_ground.proofs.naming.is_rising_from.Given as goal

abbrev pub invariant-loop-next : goal.invariant-loop-next
invariant-loop-next l = rise_from l.last (drop l.next-index l.tuples) ≡ rise_from l.tuple l.tuples
