use Rattle.needed_clauses.specs.Renaming.{number_in, HaveClauses}
use Rattle.lazy_ground.specs.Lazy.{lazy_problem}
use Rattle.lazy_search.proofs.testing.have_clauses.Given as goal

abbrev pub invariant-loop-place : goal.invariant-loop-place
invariant-loop-place l = HaveClauses (number_in l.proposed.atoms.now l.whole) l.place l.proposed.problem.now.clauses (lazy_problem l.ground).clauses l.proposed.picks.now.numbers.items
