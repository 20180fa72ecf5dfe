use Rattle.needed_clauses.specs.Renaming.{Rise}
use Rattle.needed_clauses.proofs.testing.rise.Given as goal

abbrev pub invariant-loop-place : goal.invariant-loop-place
invariant-loop-place l = Rise l.place l.numbers l.end
