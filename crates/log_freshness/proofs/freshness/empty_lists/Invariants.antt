use Rattle.std.proofs.Common.{◌≡◌, length}
use Rattle.log_freshness.specs.Index.{HasNoEntry}
use Rattle.log_freshness.proofs.freshness.empty_lists.Given as goal

abbrev pub invariant-loop-i : goal.invariant-loop-i
invariant-loop-i l = (length l.lists.items ≡ l.i) × HasNoEntry l.lists.items
