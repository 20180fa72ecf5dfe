use Rattle.std.proofs.Common.{length}
use Rattle.spec_types.proofs.rules.+rule_variables_fault.Given as goal

abbrev pub decreases-rule_variables_fault : goal.decreases-rule_variables_fault
decreases-rule_variables_fault l = length l.sorts.now
