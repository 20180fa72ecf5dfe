use Rattle.std.proofs.Common.{arith}
use Rattle.std.proofs.lemmas.Grind.{common_steps}
use Rattle.spec_types.proofs.elaborating.formulas.var_sorts.Goals as goal

pub loop-var-preserved : goal.loop-var-preserved
loop-var-preserved c = grind (arith, common_steps)

pub returns : goal.returns
returns c = grind (arith, common_steps)
