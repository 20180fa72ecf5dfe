use Rattle.std.proofs.Common.{length}
use Rattle.model_back.proofs.classes.+element.Given as goal

abbrev pub decreases-element : goal.decreases-element
decreases-element l = length l.classes.now
