use Rattle.std.proofs.Common.{◌≡◌}
use Rattle.ground_problem.specs.Equality.{tuples_same}
use Rattle.lazy_ground.specs.Named.{known_after}
use Rattle.lazy_ground.proofs.NamedAfter.{places_after}
use Rattle.lazy_ground.proofs.numbering.number_places.Given as goal

abbrev pub invariant-loop-place : goal.invariant-loop-place
invariant-loop-place l = places_after l.atoms l.left l.right l.place ≡ known_after l.initial.atoms (tuples_same l.left l.right)
