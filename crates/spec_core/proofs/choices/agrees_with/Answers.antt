use Rattle.std.proofs.Common.{arith}
use Rattle.std.proofs.lemmas.Grind.{common_steps}
use Rattle.spec_core.proofs.choices.agrees_with.Goals as goal

pub bounds-chosen-0 : goal.bounds-chosen-0
bounds-chosen-0 g c = grind (arith, common_steps)

pub bounds-chosen-0-then-chosen-lt3 : goal.bounds-chosen-0-then-chosen-lt3
bounds-chosen-0-then-chosen-lt3 g c = grind (arith, common_steps)

pub bounds-chosen-1 : goal.bounds-chosen-1
bounds-chosen-1 g c = grind (arith, common_steps)

pub returns-in-empty : goal.returns-in-empty
returns-in-empty g c = grind (arith, common_steps)

pub returns-in-len1 : goal.returns-in-len1
returns-in-len1 g c = grind (arith, common_steps)

pub returns-in-len2 : goal.returns-in-len2
returns-in-len2 g c = grind (arith, common_steps)
