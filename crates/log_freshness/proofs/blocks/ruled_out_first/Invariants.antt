use Rattle.log_freshness.specs.Blocks.{RulesOut}
use Rattle.log_freshness.proofs.blocks.ruled_out_first.Given as goal

abbrev pub invariant-loop-i : goal.invariant-loop-i
invariant-loop-i l = RulesOut l.marks l.masks l.out
