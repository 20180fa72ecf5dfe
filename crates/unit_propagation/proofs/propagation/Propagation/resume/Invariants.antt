use Rattle.std.proofs.Common.{◌≡◌, ◌≤◌, [], None, length}
use Rattle.unit_propagation.specs.Watches.{AreWatched}
use Rattle.unit_propagation.proofs.propagation.Propagation.resume.Given as goal

abbrev pub invariant-loop-clause : goal.invariant-loop-clause
invariant-loop-clause l = (l.self.conflict ≡ None) × AreWatched l.clause l.problem.clauses l.trail 0 [] l.self.watches × (length l.fn.self.watches.pairs.items ≤ l.clause)
