use Rattle.std.proofs.Common.{length}
use Rattle.ground_tests.proofs.satisfying.+all_hold.Given as goal

abbrev pub decreases-all_hold : goal.decreases-all_hold
decreases-all_hold g l = length l.formulas.now
