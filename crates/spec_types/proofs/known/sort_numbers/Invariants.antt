use Rattle.std.proofs.Common.{◌≡◌, take, map}
use Rattle.typing_rules.specs.Scope.{sort_number}
use Rattle.spec_types.specs.faults.Names.{meaning_in}
use Rattle.spec_types.proofs.known.sort_numbers.Given as goal

-- the sorts so far
abbrev pub invariant-loop-mark : goal.invariant-loop-mark
invariant-loop-mark l = l.sorts ≡ map (sort_number (meaning_in l.names)) (take l.mark-index l.marks)
