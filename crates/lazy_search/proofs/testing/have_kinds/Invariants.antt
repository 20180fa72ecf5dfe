use Rattle.needed_clauses.specs.Renaming.{HaveKinds}
use Rattle.lazy_ground.specs.Lazy.{lazy_problem}
use Rattle.lazy_search.proofs.testing.have_kinds.Given as goal

abbrev pub invariant-loop-place : goal.invariant-loop-place
invariant-loop-place l = HaveKinds l.place l.part.atoms (lazy_problem l.ground).atoms l.atoms
