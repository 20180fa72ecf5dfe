use Rattle.std.proofs.Common.{List, length, ◌+◌, ◌-◌}
use Rattle.token_protocol.specs.declared.granted.Granted.{Granted}
use Rattle.token_manager.specs.Index.{AreUpTo}
use Rattle.token_manager.proofs.index.reach.Given as goal

abbrev pub invariant-loop-alloc : goal.invariant-loop-alloc
invariant-loop-alloc l = (granted : List Granted) → AreUpTo granted l.initial.lists.items → AreUpTo granted l.lists.items

abbrev pub decreases-loop-alloc : goal.decreases-loop-alloc
decreases-loop-alloc l = l.op + 1 - length l.lists.items
