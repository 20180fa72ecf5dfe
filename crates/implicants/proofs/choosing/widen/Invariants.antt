use Rattle.std.proofs.Common.{◌≡◌, ◌+◌, ◌-◌, ℕ, None, length, slice_index_or}
use Rattle.implicants.proofs.choosing.widen.Given as goal

abbrev pub invariant-loop-signs : goal.invariant-loop-signs
invariant-loop-signs l = (a : ℕ) → slice_index_or l.signs.items a None ≡ slice_index_or l.fn.signs.items a None

abbrev pub decreases-loop-signs : goal.decreases-loop-signs
decreases-loop-signs l = (l.atom + 1) - length l.signs.items
