use Rattle.std.proofs.Common.{◌≡◌, ◌≤◌, take, length}
use Rattle.log_freshness.specs.Freshness.{live_of}
use Rattle.proof_kernel.proofs.kernel.count_live.Given as goal

abbrev pub invariant-loop-number : goal.invariant-loop-number
invariant-loop-number l = (l.count ≡ length (live_of (take l.number l.slots))) × (l.count ≤ l.number)
