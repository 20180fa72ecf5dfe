use Rattle.std.proofs.Common.{arith}
use Rattle.std.proofs.lemmas.Grind.{common_steps}
use Rattle.line_rows.proofs.steps.sum_of_step_in.Goals as goal

pub returns-in-Err-Negative : goal.returns-in-Err-Negative
returns-in-Err-Negative c = grind (arith, common_steps)

pub returns-in-Ok : goal.returns-in-Ok
returns-in-Ok c = grind (arith, common_steps)

pub returns-in-Err-Range : goal.returns-in-Err-Range
returns-in-Err-Range c = grind (arith, common_steps)

pub returns-in-Err-Memory : goal.returns-in-Err-Memory
returns-in-Err-Memory c = grind (arith, common_steps)
