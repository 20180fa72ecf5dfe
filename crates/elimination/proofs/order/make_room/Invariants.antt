use Rattle.std.proofs.Common.{◌≡◌, ℕ, ◌+◌, ◌-◌, length, false}
use Rattle.std.specs.Prelude.{slice_index_or}
use Rattle.elimination.proofs.order.make_room.Given as goal

abbrev pub invariant-loop-flags : goal.invariant-loop-flags
invariant-loop-flags l = (q : ℕ) → slice_index_or l.flags.items q false ≡ slice_index_or l.initial.flags.items q false

abbrev pub decreases-loop-flags : goal.decreases-loop-flags
decreases-loop-flags l = (l.place + 1) - length l.flags.items
