use Rattle.std.proofs.Common.{length}
use Rattle.token_rules.proofs.assignment.+one_assignment.Given as goal

abbrev pub decreases-one_assignment : goal.decreases-one_assignment
decreases-one_assignment l = length l.left.now
