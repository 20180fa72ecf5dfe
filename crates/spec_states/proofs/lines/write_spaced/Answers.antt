use Rattle.std.proofs.Common.{arith}
use Rattle.std.proofs.lemmas.Grind.{common_steps}
use Rattle.spec_states.proofs.lines.write_spaced.Goals as goal

pub loop-element-init : goal.loop-element-init
loop-element-init c = grind (arith, common_steps)

pub bounds-elements-element-index : goal.bounds-elements-element-index
bounds-elements-element-index c = grind (arith, common_steps)

pub loop-element-smaller : goal.loop-element-smaller
loop-element-smaller c = grind (arith, common_steps)

pub loop-element-preserved : goal.loop-element-preserved
loop-element-preserved c = grind (arith, common_steps)

pub returns : goal.returns
returns c = grind (arith, common_steps)
