use Rattle.std.proofs.Common.{arith}
use Rattle.std.proofs.lemmas.Grind.{common_steps}
use Rattle.report_lines.proofs.digits.front_number.Goals as goal

pub returns-in-48-2-clause-len : goal.returns-in-48-2-clause-len
returns-in-48-2-clause-len c = grind (arith, common_steps)

pub returns-in-48-clause-len : goal.returns-in-48-clause-len
returns-in-48-clause-len c = grind (arith, common_steps)

pub returns-in_default-clause-number : goal.returns-in_default-clause-number
returns-in_default-clause-number c = grind (arith, common_steps)
