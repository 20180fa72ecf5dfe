use Rattle.std.proofs.Common.{arith}
use Rattle.std.proofs.lemmas.Grind.{common_steps}
use Rattle.conflict_variants.proofs.copies.formulas.copy_summands.Goals as goal

pub loop-summand-preserved : goal.loop-summand-preserved
loop-summand-preserved c = grind (arith, common_steps)

pub returns : goal.returns
returns c = grind (arith, common_steps)
