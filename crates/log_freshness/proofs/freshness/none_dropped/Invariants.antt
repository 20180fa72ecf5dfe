use Rattle.std.proofs.Common.{◌≡◌, drop, is_some}
use Rattle.std.specs.List.{list_all}
use Rattle.log_freshness.proofs.freshness.none_dropped.Given as goal

abbrev pub invariant-loop-i : goal.invariant-loop-i
invariant-loop-i l = list_all (λ o. is_some o) l.slots ≡ list_all (λ o. is_some o) (drop l.i l.slots)
