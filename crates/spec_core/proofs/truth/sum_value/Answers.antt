use Rattle.std.proofs.Common.{arith}
use Rattle.std.proofs.lemmas.Grind.{common_steps}
use Rattle.spec_core.proofs.truth.sum_value.Goals as goal

pub loop-summand-init : goal.loop-summand-init
loop-summand-init g c = grind (arith, common_steps)

pub bounds-summands-summand-index : goal.bounds-summands-summand-index
bounds-summands-summand-index g c = grind (arith, common_steps)

pub overflow_add-sum : goal.overflow_add-sum
overflow_add-sum g c = grind (arith, common_steps)

pub loop-summand-smaller : goal.loop-summand-smaller
loop-summand-smaller g c = grind (arith, common_steps)

pub loop-summand-preserved : goal.loop-summand-preserved
loop-summand-preserved g c = grind (arith, common_steps)

pub returns-clause-value : goal.returns-clause-value
returns-clause-value g c = grind (arith, common_steps)

pub returns-clause-small : goal.returns-clause-small
returns-clause-small g c = grind (arith, common_steps)
