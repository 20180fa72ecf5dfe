use Rattle.std.proofs.Common.{◌≡◌, ◌++◌, drop, length}
use Rattle.std.specs.List.{range_with_len}
use Rattle.ground_groups.proofs.gathering.add_constants.Given as goal

abbrev pub invariant-loop-sort : goal.invariant-loop-sort
invariant-loop-sort l = record {
  numbers : l.numbers ++ range_with_len (length l.sorts) (length (drop l.sort-index l.vars)) ≡ range_with_len (length l.initial.sorts) (length l.vars);
  sorts : l.sorts ++ drop l.sort-index l.vars ≡ l.initial.sorts ++ l.vars;
}
