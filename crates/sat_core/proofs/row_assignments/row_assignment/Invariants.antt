use Rattle.sat_core.specs.Searching.{IsRowAssignment}
use Rattle.sat_core.proofs.row_assignments.row_assignment.Given as goal

abbrev pub invariant-loop-atom : goal.invariant-loop-atom
invariant-loop-atom l = IsRowAssignment l.problem.atoms l.trail l.atom l.assignment.lits l.assignment.rows
