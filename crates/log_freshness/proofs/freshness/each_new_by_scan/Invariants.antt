use Rattle.std.proofs.Common.{◌≡◌, drop, take}
use Rattle.log_freshness.specs.Freshness.{live_of, each_new}
use Rattle.log_freshness.proofs.freshness.each_new_by_scan.Given as goal

abbrev pub invariant-loop-i : goal.invariant-loop-i
invariant-loop-i l = each_new (live_of (take l.given l.slots)) (live_of (drop l.given l.slots)) ≡ each_new (live_of (take l.i l.slots)) (live_of (drop l.i l.slots))
