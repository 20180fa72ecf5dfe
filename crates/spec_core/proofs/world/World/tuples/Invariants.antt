use Rattle.std.proofs.Common.{◌≡◌, ◌-◌, length, drop}
use Rattle.spec_core.specs.World.{tuples}
use Rattle.spec_core.proofs.world.World.tuples.Given as goal

abbrev pub invariant-loop-i : goal.invariant-loop-i
invariant-loop-i l = l.all ≡ tuples l.self (drop (length l.sorts - l.i) l.sorts)
