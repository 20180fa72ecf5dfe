use Rattle.std.proofs.Common.{◌≡◌, ◌++◌, drop}
use Rattle.token_protocol.specs.Manager.{conflicting}
use Rattle.token_manager.specs.Named.{ids_at}
use Rattle.token_manager.proofs.manager.conflicting.Given as goal

-- all that conflict are those found so far, and those on the list from here on
abbrev pub invariant-loop-number : goal.invariant-loop-number
invariant-loop-number l = conflicting l.new.spec.now l.new.world.now l.granted l.new.call.now ≡ l.ids ++ ids_at l.new.spec.now l.new.world.now l.new.call.now l.granted (drop l.number-index l.numbers)
