use Rattle.std.proofs.Common.{◌≡◌, ◌++◌, ◌+◌, drop, length}
use Rattle.ground_problem.specs.Constants.{sorts_of_params}
use Rattle.ground_atoms.specs.Calls.{args_from, ints_among}
use Rattle.ground_groups.proofs.gathering.add_args.Given as goal

abbrev pub invariant-loop-param : goal.invariant-loop-param
invariant-loop-param l = record {
  args : l.args ++ args_from (length l.sorts) l.ints (drop l.param-index l.params) ≡ args_from (length l.initial.sorts) l.initial.ints l.params;
  sorts : l.sorts ++ sorts_of_params (drop l.param-index l.params) ≡ l.initial.sorts ++ sorts_of_params l.params;
  ints : l.ints + ints_among (drop l.param-index l.params) ≡ l.initial.ints + ints_among l.params;
}
