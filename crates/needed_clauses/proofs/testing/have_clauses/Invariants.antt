use Rattle.std.proofs.Common.{length}
use Rattle.needed_clauses.specs.Renaming.{number_in, HaveClauses}
use Rattle.needed_clauses.proofs.testing.have_clauses.Given as goal

abbrev pub invariant-loop-place : goal.invariant-loop-place
invariant-loop-place l = HaveClauses (number_in l.atoms (length l.whole.atoms)) l.place l.part.clauses l.whole.clauses l.clauses
