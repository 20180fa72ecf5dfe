use Rattle.std.proofs.Common.{◌≡◌, ◌≤◌, true, drop, length}
use Rattle.std.specs.List.{list_all}
use Rattle.lazy_search.specs.Chosen.{is_implied}
use Rattle.lazy_search.proofs.choosing.implied_from.Given as goal

abbrev pub invariant-loop-from : goal.invariant-loop-from
invariant-loop-from l = record {
  within : l.from ≤ length l.forms;
  implied : list_all is_implied (drop l.from l.forms) ≡ true;
}

abbrev pub decreases-loop-from : goal.decreases-loop-from
decreases-loop-from l = l.from
