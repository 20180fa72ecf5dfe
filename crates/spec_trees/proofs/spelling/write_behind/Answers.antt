use Rattle.std.proofs.Common.{arith}
use Rattle.std.proofs.lemmas.Grind.{common_steps}
use Rattle.spec_trees.proofs.spelling.write_behind.Goals as goal

pub bounds-symbols-symbol-index : goal.bounds-symbols-symbol-index
bounds-symbols-symbol-index c = grind (arith, common_steps)

pub returns : goal.returns
returns c = grind (arith, common_steps)
