use Rattle.std.proofs.Common.{◌+◌, ◌-◌, length}
use Rattle.watched_search.proofs.hints.Hints.note.Given as goal

abbrev pub decreases-loop-self : goal.decreases-loop-self
decreases-loop-self l = (l.lit.atom + 1) - length l.self.values.items
