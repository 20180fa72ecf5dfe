use Rattle.lazy_ground.proofs.Places.{IsJoinedTo}
use Rattle.lazy_ground.proofs.equal.places_equality.Given as goal

abbrev pub invariant-loop-place : goal.invariant-loop-place
invariant-loop-place l = IsJoinedTo l.atoms.table l.left l.right l.place l.done
