use Rattle.std.proofs.Common.{◌≡◌, take, map}
use Rattle.typing_rules.specs.Items.{variable_number}
use Rattle.spec_types.proofs.rules.variable_numbers.Given as goal

-- the numbers so far
abbrev pub invariant-loop-mark : goal.invariant-loop-mark
invariant-loop-mark l = l.numbers ≡ map (variable_number l.left l.right) (take l.mark-index l.marks)
