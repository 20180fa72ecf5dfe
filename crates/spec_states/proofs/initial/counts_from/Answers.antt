use Rattle.std.proofs.Common.{arith}
use Rattle.std.proofs.lemmas.Grind.{common_steps}
use Rattle.spec_states.proofs.initial.counts_from.Goals as goal

pub loop-key-init : goal.loop-key-init
loop-key-init c = grind (arith, common_steps)

pub bounds-all-key-index : goal.bounds-all-key-index
bounds-all-key-index c = grind (arith, common_steps)

pub loop-key-smaller : goal.loop-key-smaller
loop-key-smaller c = grind (arith, common_steps)

pub loop-key-preserved : goal.loop-key-preserved
loop-key-preserved c = grind (arith, common_steps)

pub returns-clause-count : goal.returns-clause-count
returns-clause-count c = grind (arith, common_steps)

pub returns-clause-listed : goal.returns-clause-listed
returns-clause-listed c = grind (arith, common_steps)

pub returns-clause-counts : goal.returns-clause-counts
returns-clause-counts c = grind (arith, common_steps)
