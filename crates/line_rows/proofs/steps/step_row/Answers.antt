use Rattle.std.proofs.Common.{arith}
use Rattle.std.proofs.lemmas.Grind.{common_steps}
use Rattle.line_rows.proofs.steps.step_row.Goals as goal

pub returns-then-left-rows : goal.returns-then-left-rows
returns-then-left-rows c = grind (arith, common_steps)

pub bounds-rows-left : goal.bounds-rows-left
bounds-rows-left c = grind (arith, common_steps)

pub bounds-rows-right : goal.bounds-rows-right
bounds-rows-right c = grind (arith, common_steps)
