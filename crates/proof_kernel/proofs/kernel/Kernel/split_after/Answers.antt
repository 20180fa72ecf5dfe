use Rattle.std.proofs.Common.{arith}
use Rattle.std.proofs.lemmas.Grind.{common_steps}
use Rattle.proof_kernel.proofs.kernel.Kernel.split_after.Goals as goal

pub returns-in_default-clause-exact : goal.returns-in_default-clause-exact
returns-in_default-clause-exact c = grind (arith, common_steps)

pub returns-in_default-clause-kept : goal.returns-in_default-clause-kept
returns-in_default-clause-kept c = grind (arith, common_steps)

pub returns-then-values-len-clause-exact : goal.returns-then-values-len-clause-exact
returns-then-values-len-clause-exact c = grind (arith, common_steps)

pub returns-then-values-len-clause-kept : goal.returns-then-values-len-clause-kept
returns-then-values-len-clause-kept c = grind (arith, common_steps)

pub returns-then-has_at_most-clause-exact : goal.returns-then-has_at_most-clause-exact
returns-then-has_at_most-clause-exact c = grind (arith, common_steps)

pub returns-then-has_at_most-clause-kept : goal.returns-then-has_at_most-clause-kept
returns-then-has_at_most-clause-kept c = grind (arith, common_steps)

pub returns-in-Err-clause-exact : goal.returns-in-Err-clause-exact
returns-in-Err-clause-exact c = grind (arith, common_steps)

pub returns-in-Err-clause-kept : goal.returns-in-Err-clause-kept
returns-in-Err-clause-kept c = grind (arith, common_steps)

pub returns-in_default-at_most-clause-exact : goal.returns-in_default-at_most-clause-exact
returns-in_default-at_most-clause-exact c = grind (arith, common_steps)

pub returns-in_default-at_most-clause-kept : goal.returns-in_default-at_most-clause-kept
returns-in_default-at_most-clause-kept c = grind (arith, common_steps)

pub returns-in_default-name-clause-exact : goal.returns-in_default-name-clause-exact
returns-in_default-name-clause-exact c = grind (arith, common_steps)

pub returns-in_default-name-clause-kept : goal.returns-in_default-name-clause-kept
returns-in_default-name-clause-kept c = grind (arith, common_steps)

pub returns-clause-exact : goal.returns-clause-exact
returns-clause-exact c = grind (arith, common_steps)

pub returns-clause-kept : goal.returns-clause-kept
returns-clause-kept c = grind (arith, common_steps)
