use Rattle.std.proofs.Common.{◌≡◌, ◌+◌, ◌-◌, ℕ, None, length, slice_index_or}
use Rattle.sat_core.proofs.places.widen.Given as goal

abbrev pub invariant-loop-places : goal.invariant-loop-places
invariant-loop-places l = (a : ℕ) → slice_index_or l.places.items a None ≡ slice_index_or l.fn.places.items a None

abbrev pub decreases-loop-places : goal.decreases-loop-places
decreases-loop-places l = (l.atom + 1) - length l.places.items
