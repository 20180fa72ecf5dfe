use Rattle.std.proofs.Common.{take}
use Rattle.std.specs.List.{AllZip}
use Rattle.spec_states.specs.Starting.{CountsAs}
use Rattle.spec_states.proofs.initial.first_counters.Given as goal

abbrev pub invariant-loop-counter : goal.invariant-loop-counter
invariant-loop-counter l = AllZip (CountsAs l.world) (take l.counter-index l.counters) l.lists.items
