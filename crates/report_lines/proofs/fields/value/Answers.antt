use Rattle.std.proofs.Common.{arith}
use Rattle.std.proofs.lemmas.Grind.{common_steps}
use Rattle.report_lines.proofs.fields.value.Goals as goal

pub returns-in_default : goal.returns-in_default
returns-in_default c = grind (arith, common_steps)

pub overflow_cast-result : goal.overflow_cast-result
overflow_cast-result c = grind (arith, common_steps)

pub returns : goal.returns
returns c = grind (arith, common_steps)

pub returns-then-unsigned_abs-gt1000000000000000 : goal.returns-then-unsigned_abs-gt1000000000000000
returns-then-unsigned_abs-gt1000000000000000 c = grind (arith, common_steps)
