use Rattle.needed_clauses.specs.Renaming.{HaveKinds}
use Rattle.needed_clauses.proofs.testing.have_kinds.Given as goal

abbrev pub invariant-loop-place : goal.invariant-loop-place
invariant-loop-place l = HaveKinds l.place l.part.atoms l.whole.atoms l.atoms
