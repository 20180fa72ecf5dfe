use Rattle.std.proofs.Common.{arith}
use Rattle.std.proofs.lemmas.Grind.{common_steps}
use Rattle.spec_core.proofs.choices.all_agree.Goals as goal

pub bounds-sorts-0 : goal.bounds-sorts-0
bounds-sorts-0 g c = grind (arith, common_steps)

pub bounds-sorts-0-then-sorts-lt3 : goal.bounds-sorts-0-then-sorts-lt3
bounds-sorts-0-then-sorts-lt3 g c = grind (arith, common_steps)

pub bounds-sorts-1 : goal.bounds-sorts-1
bounds-sorts-1 g c = grind (arith, common_steps)

pub bounds-sorts-0-then-sorts-lt4 : goal.bounds-sorts-0-then-sorts-lt4
bounds-sorts-0-then-sorts-lt4 g c = grind (arith, common_steps)

pub bounds-sorts-1-then-sorts-lt4 : goal.bounds-sorts-1-then-sorts-lt4
bounds-sorts-1-then-sorts-lt4 g c = grind (arith, common_steps)

pub bounds-sorts-2 : goal.bounds-sorts-2
bounds-sorts-2 g c = grind (arith, common_steps)

pub returns-in-empty : goal.returns-in-empty
returns-in-empty g c = grind (arith, common_steps)

pub returns-in-len1 : goal.returns-in-len1
returns-in-len1 g c = grind (arith, common_steps)

pub returns-in-len2 : goal.returns-in-len2
returns-in-len2 g c = grind (arith, common_steps)

pub returns-in-len3 : goal.returns-in-len3
returns-in-len3 g c = grind (arith, common_steps)
