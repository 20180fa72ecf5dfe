use Rattle.std.proofs.Common.{length}
use Rattle.unit_propagation.specs.Watches.{AllWatched}
use Rattle.unit_propagation.proofs.propagation.Propagation.find.Given as goal

abbrev pub invariant-loop-clause : goal.invariant-loop-clause
invariant-loop-clause l = AllWatched l.problem.clauses l.trail l.self.watches

abbrev pub decreases-loop-clause : goal.decreases-loop-clause
decreases-loop-clause l = length l.self.watches.units
