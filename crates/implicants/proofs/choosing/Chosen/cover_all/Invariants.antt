use Rattle.implicants.specs.Choosing.{AreChosen, AreMet}
use Rattle.implicants.proofs.choosing.Chosen.cover_all.Given as goal

abbrev pub invariant-loop-i : goal.invariant-loop-i
invariant-loop-i l = AreChosen l.trail l.self × AreMet l.i l.problem.atoms l.problem.clauses l.values l.self
