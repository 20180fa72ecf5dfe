use Rattle.needed_clauses.specs.Renaming.{number_in, HaveLiterals}
use Rattle.needed_clauses.proofs.testing.have_literals.Given as goal

abbrev pub invariant-loop-place : goal.invariant-loop-place
invariant-loop-place l = HaveLiterals (number_in l.atoms l.whole) l.place l.small l.large
