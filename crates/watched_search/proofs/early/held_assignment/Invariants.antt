use Rattle.watched_search.specs.Early.{AreHeld}
use Rattle.watched_search.proofs.early.held_assignment.Given as goal

abbrev pub invariant-loop-lit : goal.invariant-loop-lit
invariant-loop-lit l = AreHeld l.problem.atoms l.trail l.assignment.lits l.assignment.rows
