use Rattle.std.proofs.Common.{arith}
use Rattle.std.proofs.lemmas.Grind.{common_steps}
use Rattle.spec_core.proofs.truth.count_at.Goals as goal

pub bounds-elems-0 : goal.bounds-elems-0
bounds-elems-0 g c = grind (arith, common_steps)

pub bounds-elems-0-then-elems-lt3 : goal.bounds-elems-0-then-elems-lt3
bounds-elems-0-then-elems-lt3 g c = grind (arith, common_steps)

pub bounds-elems-1 : goal.bounds-elems-1
bounds-elems-1 g c = grind (arith, common_steps)

pub returns-in-len1-clause-value : goal.returns-in-len1-clause-value
returns-in-len1-clause-value g c = grind (arith, common_steps)

pub returns-in-len1-clause-small : goal.returns-in-len1-clause-small
returns-in-len1-clause-small g c = grind (arith, common_steps)

pub returns-in-len2-clause-value : goal.returns-in-len2-clause-value
returns-in-len2-clause-value g c = grind (arith, common_steps)

pub returns-in-len2-clause-small : goal.returns-in-len2-clause-small
returns-in-len2-clause-small g c = grind (arith, common_steps)

pub returns-in_default-clause-value : goal.returns-in_default-clause-value
returns-in_default-clause-value g c = grind (arith, common_steps)

pub returns-in_default-clause-small : goal.returns-in_default-clause-small
returns-in_default-clause-small g c = grind (arith, common_steps)
