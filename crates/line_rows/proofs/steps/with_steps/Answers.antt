use Rattle.std.proofs.Common.{arith}
use Rattle.std.proofs.lemmas.Grind.{common_steps}
use Rattle.line_rows.proofs.steps.with_steps.Goals as goal

pub loop-step-init : goal.loop-step-init
loop-step-init c = grind (arith, common_steps)

pub bounds-steps-step-index : goal.bounds-steps-step-index
bounds-steps-step-index c = grind (arith, common_steps)

pub returns-in_default : goal.returns-in_default
returns-in_default c = grind (arith, common_steps)

pub loop-step-smaller : goal.loop-step-smaller
loop-step-smaller c = grind (arith, common_steps)

pub loop-step-preserved : goal.loop-step-preserved
loop-step-preserved c = grind (arith, common_steps)

pub returns : goal.returns
returns c = grind (arith, common_steps)
