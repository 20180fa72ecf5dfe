use Rattle.std.proofs.Common.{◌≡◌, ◌++◌, drop, length, map}
use Rattle.std.specs.List.{flat_map}
use Rattle.spec_core.specs.Specification.{op_of}
use Rattle.ground_problem.specs.Constants.{sorts_of_params}
use Rattle.ground_atoms.specs.Calls.{calls_from}
use Rattle.ground_groups.proofs.gathering.add_calls.Given as goal

abbrev pub invariant-loop-op : goal.invariant-loop-op
invariant-loop-op l = record {
  calls : l.calls ++ calls_from l.spec (length l.sorts) l.ints (drop l.op-index l.ops) ≡ calls_from l.spec (length l.initial.sorts) 0 l.ops;
  sorts : l.sorts ++ flat_map sorts_of_params (map (λ o. (op_of l.spec o).params) (drop l.op-index l.ops)) ≡ l.initial.sorts ++ flat_map sorts_of_params (map (λ o. (op_of l.spec o).params) l.ops);
}
