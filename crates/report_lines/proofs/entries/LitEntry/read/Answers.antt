use Rattle.std.proofs.Common.{arith}
use Rattle.std.proofs.lemmas.Grind.{common_steps}
use Rattle.report_lines.proofs.entries.LitEntry.read.Goals as goal

pub returns-in_err-literal : goal.returns-in_err-literal
returns-in_err-literal c = grind (arith, common_steps)

pub returns : goal.returns
returns c = grind (arith, common_steps)
