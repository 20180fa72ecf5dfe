use Rattle.std.proofs.Common.{◌≡◌, ℕ, ◌≤◌, length, drop, reverse}
use Rattle.std.specs.Prelude.{nat_eq}
use Rattle.std.specs.HashSet.{contains}
use Rattle.report_upgrader.specs.UpgradedLogs.{is_named, upgraded}
use Rattle.report_upgrader.proofs.dropping.upgrade_log.Given as goal

abbrev pub invariant-loop-i : goal.invariant-loop-i
invariant-loop-i l = record {
  within : l.i ≤ length l.lines;
  seen : (n : ℕ) → contains nat_eq l.seen n ≡ is_named (drop l.i l.lines) n;
  out : l.out.items ≡ reverse (upgraded (drop l.i l.lines));
}

abbrev pub decreases-loop-i : goal.decreases-loop-i
decreases-loop-i l = l.i
