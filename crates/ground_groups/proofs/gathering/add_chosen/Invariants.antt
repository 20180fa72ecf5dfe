use Rattle.std.proofs.Common.{◌≡◌, ◌++◌, drop, length, map}
use Rattle.ground_problem.specs.Constants.{chosen_vars, chosen_from, concatenated}
use Rattle.ground_groups.proofs.gathering.add_chosen.Given as goal

abbrev pub invariant-loop-line : goal.invariant-loop-line
invariant-loop-line l = record {
  numbers : l.lists ++ chosen_from (length l.sorts) (map chosen_vars (drop l.line-index l.lines)) ≡ chosen_from (length l.initial.sorts) (map chosen_vars l.lines);
  sorts : l.sorts ++ concatenated (map chosen_vars (drop l.line-index l.lines)) ≡ l.initial.sorts ++ concatenated (map chosen_vars l.lines);
}
