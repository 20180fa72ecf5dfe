use Rattle.std.proofs.Common.{length}
use Rattle.token_rules.proofs.assignment.+stands_for.Given as goal

abbrev pub decreases-stands_for : goal.decreases-stands_for
decreases-stands_for l = length l.vars.now
