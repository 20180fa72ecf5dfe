use Rattle.std.proofs.Common.{arith}
use Rattle.std.proofs.lemmas.Grind.{common_steps}
use Rattle.conflict_variants.proofs.copies.declarations.copy_relations.Goals as goal

pub loop-relation-preserved : goal.loop-relation-preserved
loop-relation-preserved c = grind (arith, common_steps)

pub returns : goal.returns
returns c = grind (arith, common_steps)
