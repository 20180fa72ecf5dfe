use Rattle.std.proofs.Common.{arith}
use Rattle.std.proofs.lemmas.Grind.{common_steps}
use Rattle.report_lines.proofs.log.split.Goals as goal

pub returns : goal.returns
returns c = grind (arith, common_steps)

pub returns-2 : goal.returns-2
returns-2 c = grind (arith, common_steps)
