use Rattle.std.proofs.Common.{length}
use Rattle.model_back.proofs.classes.+any_alike.Given as goal

abbrev pub decreases-any_alike : goal.decreases-any_alike
decreases-any_alike l = length l.others.now
