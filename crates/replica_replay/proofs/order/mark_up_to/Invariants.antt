use Rattle.std.proofs.Common.{◌≡◌, ℕ, ◌+◌, ◌-◌, false, get_or, length}
use Rattle.replica_replay.proofs.order.mark_up_to.Given as goal

-- nothing more is marked
abbrev pub invariant-loop-marks : goal.invariant-loop-marks
invariant-loop-marks l = (e : ℕ) → get_or l.marks.items e false ≡ get_or l.initial.marks.items e false

abbrev pub decreases-loop-marks : goal.decreases-loop-marks
decreases-loop-marks l = l.event + 1 - length l.marks.items
