use Rattle.std.proofs.Common.{◌≡◌, ◌<◌, ℕ, true}
use Rattle.sat_core.specs.Trails.{is_assigned}
use Rattle.sat_core.proofs.finding.unassigned.Given as goal

abbrev pub invariant-loop-atom : goal.invariant-loop-atom
invariant-loop-atom l = (k : ℕ) → k < l.atom → is_assigned l.trail k ≡ true
