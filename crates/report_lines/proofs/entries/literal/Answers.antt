use Rattle.std.proofs.Common.{arith}
use Rattle.std.proofs.lemmas.Grind.{common_steps}
use Rattle.report_lines.proofs.entries.literal.Goals as goal

pub returns-in-43 : goal.returns-in-43
returns-in-43 c = grind (arith, common_steps)

pub returns-in-45 : goal.returns-in-45
returns-in-45 c = grind (arith, common_steps)
