use Rattle.log_freshness.specs.Blocks.{RulesOut}
use Rattle.log_freshness.proofs.blocks.ruled_out_by_all.Given as goal

abbrev pub invariant-loop-at : goal.invariant-loop-at
invariant-loop-at l = RulesOut l.marks l.masks l.out
