use Rattle.std.proofs.Common.{◌≡◌, length, None}
use Rattle.unit_propagation.specs.Watches.{code, AreWatched}
use Rattle.unit_propagation.proofs.propagation.Propagation.follow.Given as goal

abbrev pub invariant-loop-clause : goal.invariant-loop-clause
invariant-loop-clause l = (l.self.conflict ≡ None) × AreWatched (length l.problem.clauses) l.problem.clauses l.trail (code l.gone) l.self.left l.self.watches

abbrev pub decreases-loop-clause : goal.decreases-loop-clause
decreases-loop-clause l = length l.self.left
