use Rattle.std.proofs.Common.{◌≡◌, ◌++◌, drop, length, map}
use Rattle.std.specs.List.{flat_map}
use Rattle.spec_core.specs.Specification.{op_of}
use Rattle.ground_problem.specs.Constants.{chosen_vars, concatenated, all_chosen_from}
use Rattle.ground_groups.proofs.gathering.add_all_chosen.Given as goal

abbrev pub invariant-loop-op : goal.invariant-loop-op
invariant-loop-op l = record {
  numbers : l.lists ++ all_chosen_from (length l.sorts) (map (λ o. map chosen_vars (op_of l.spec o).requires_) (drop l.op-index l.ops)) ≡ all_chosen_from (length l.initial.sorts) (map (λ o. map chosen_vars (op_of l.spec o).requires_) l.ops);
  sorts : l.sorts ++ flat_map concatenated (map (λ o. map chosen_vars (op_of l.spec o).requires_) (drop l.op-index l.ops)) ≡ l.initial.sorts ++ flat_map concatenated (map (λ o. map chosen_vars (op_of l.spec o).requires_) l.ops);
}
