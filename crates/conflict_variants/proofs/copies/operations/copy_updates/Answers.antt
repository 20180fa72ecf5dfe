use Rattle.std.proofs.Common.{arith}
use Rattle.std.proofs.lemmas.Grind.{common_steps}
use Rattle.conflict_variants.proofs.copies.operations.copy_updates.Goals as goal

pub loop-update-preserved : goal.loop-update-preserved
loop-update-preserved c = grind (arith, common_steps)

pub returns : goal.returns
returns c = grind (arith, common_steps)
