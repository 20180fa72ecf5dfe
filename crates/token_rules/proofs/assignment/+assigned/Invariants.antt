use Rattle.std.proofs.Common.{length}
use Rattle.token_rules.proofs.assignment.+assigned.Given as goal

abbrev pub decreases-assigned : goal.decreases-assigned
decreases-assigned l = length l.vars.now
