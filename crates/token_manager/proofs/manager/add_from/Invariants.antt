use Rattle.std.proofs.Common.{◌≡◌, ◌++◌, drop}
use Rattle.token_protocol.specs.Manager.{conflicting}
use Rattle.token_manager.proofs.manager.add_from.Given as goal

-- all that conflict are those added so far, and those from here on
abbrev pub invariant-loop-number : goal.invariant-loop-number
invariant-loop-number l =
    l.fn.ids ++ conflicting l.new.spec.now l.new.world.now (drop l.from l.granted) l.new.call.now ≡ l.ids ++ conflicting l.new.spec.now l.new.world.now (drop l.number l.granted) l.new.call.now
