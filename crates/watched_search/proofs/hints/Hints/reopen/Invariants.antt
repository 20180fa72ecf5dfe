use Rattle.std.proofs.Common.{length}
use Rattle.watched_search.proofs.hints.Hints.reopen.Given as goal

abbrev pub decreases-loop-atom : goal.decreases-loop-atom
decreases-loop-atom l = length l.self.assigned.items
