use Rattle.std.proofs.Common.{arith}
use Rattle.std.proofs.lemmas.Grind.{common_steps}
use Rattle.report_lines.proofs.head.read_title.Goals as goal

pub returns : goal.returns
returns c = grind (arith, common_steps)

pub returns-then-version-lt1 : goal.returns-then-version-lt1
returns-then-version-lt1 c = grind (arith, common_steps)
