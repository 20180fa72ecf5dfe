use Rattle.std.proofs.Common.{arith}
use Rattle.std.proofs.lemmas.Grind.{common_steps}
use Rattle.spec_core.proofs.truth.has_at.Goals as goal

pub bounds-elems-0 : goal.bounds-elems-0
bounds-elems-0 g c = grind (arith, common_steps)

pub bounds-elems-0-then-elems-lt3 : goal.bounds-elems-0-then-elems-lt3
bounds-elems-0-then-elems-lt3 g c = grind (arith, common_steps)

pub bounds-elems-1 : goal.bounds-elems-1
bounds-elems-1 g c = grind (arith, common_steps)

pub bounds-elems-0-then-elems-lt4 : goal.bounds-elems-0-then-elems-lt4
bounds-elems-0-then-elems-lt4 g c = grind (arith, common_steps)

pub bounds-elems-1-then-elems-lt4 : goal.bounds-elems-1-then-elems-lt4
bounds-elems-1-then-elems-lt4 g c = grind (arith, common_steps)

pub bounds-elems-2 : goal.bounds-elems-2
bounds-elems-2 g c = grind (arith, common_steps)

pub returns-in-len1 : goal.returns-in-len1
returns-in-len1 g c = grind (arith, common_steps)

pub returns-in-len2 : goal.returns-in-len2
returns-in-len2 g c = grind (arith, common_steps)

pub returns-in-len3 : goal.returns-in-len3
returns-in-len3 g c = grind (arith, common_steps)

pub returns-in_default : goal.returns-in_default
returns-in_default g c = grind (arith, common_steps)
