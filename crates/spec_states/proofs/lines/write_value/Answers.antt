use Rattle.std.proofs.Common.{arith}
use Rattle.std.proofs.lemmas.Grind.{common_steps}
use Rattle.spec_states.proofs.lines.write_value.Goals as goal

pub returns-then-value-eq0 : goal.returns-then-value-eq0
returns-then-value-eq0 c = grind (arith, common_steps)

pub returns : goal.returns
returns c = grind (arith, common_steps)
