use Rattle.implicants.specs.Choosing.{AreChosen}
use Rattle.implicants.proofs.choosing.Chosen.add_beyond.Given as goal

abbrev pub invariant-loop-lit : goal.invariant-loop-lit
invariant-loop-lit l = AreChosen l.trail l.self
