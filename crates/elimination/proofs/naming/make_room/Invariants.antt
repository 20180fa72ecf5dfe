use Rattle.std.proofs.Common.{◌≡◌, ℕ, ◌+◌, ◌-◌, length, []}
use Rattle.std.specs.Prelude.{slice_index_or}
use Rattle.elimination.proofs.naming.make_room.Given as goal

abbrev pub invariant-loop-alloc : goal.invariant-loop-alloc
invariant-loop-alloc l = (q : ℕ) → slice_index_or l.by_place.items q [] ≡ slice_index_or l.initial.by_place.items q []

abbrev pub decreases-loop-alloc : goal.decreases-loop-alloc
decreases-loop-alloc l = (l.place + 1) - length l.by_place.items
