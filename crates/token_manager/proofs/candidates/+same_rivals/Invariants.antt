use Rattle.std.proofs.Common.{length}
use Rattle.token_manager.proofs.candidates.+same_rivals.Given as goal

abbrev pub decreases-same_rivals : goal.decreases-same_rivals
decreases-same_rivals l = length l.a.now
