use Rattle.std.proofs.Common.{take}
use Rattle.std.specs.List.{AllZip}
use Rattle.spec_states.specs.Starting.{StartsAs}
use Rattle.spec_states.proofs.initial.first_relations.Given as goal

abbrev pub invariant-loop-relation : goal.invariant-loop-relation
invariant-loop-relation l = AllZip (StartsAs l.world) (take l.relation-index l.relations) l.lists.items
