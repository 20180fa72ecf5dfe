use Rattle.implicants.specs.Choosing.{AreChosen}
use Rattle.implicants.proofs.choosing.Chosen.add_needed.Given as goal

abbrev pub invariant-loop-clause : goal.invariant-loop-clause
invariant-loop-clause l = AreChosen l.trail l.self
