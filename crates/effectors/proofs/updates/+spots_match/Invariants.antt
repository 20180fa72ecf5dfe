use Rattle.std.proofs.Common.{length}
use Rattle.effectors.proofs.updates.+spots_match.Given as goal

abbrev pub decreases-spots_match : goal.decreases-spots_match
decreases-spots_match l = length l.spots.now
