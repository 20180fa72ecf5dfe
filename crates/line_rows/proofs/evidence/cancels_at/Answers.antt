use Rattle.std.proofs.Common.{arith}
use Rattle.std.proofs.lemmas.Grind.{common_steps}
use Rattle.line_rows.proofs.evidence.cancels_at.Goals as goal

pub returns-then-not-is_positive : goal.returns-then-not-is_positive
returns-then-not-is_positive c = grind (arith, common_steps)

pub returns-then-step-first : goal.returns-then-step-first
returns-then-step-first c = grind (arith, common_steps)

pub returns-else-step-first : goal.returns-else-step-first
returns-else-step-first c = grind (arith, common_steps)
