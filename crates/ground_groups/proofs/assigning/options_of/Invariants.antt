use Rattle.std.proofs.Common.{◌≡◌, ◌++◌, drop, map}
use Rattle.ground_problem.specs.Constants.{of_sort}
use Rattle.ground_groups.proofs.assigning.options_of.Given as goal

abbrev pub invariant-loop-sort : goal.invariant-loop-sort
invariant-loop-sort l = l.options ++ map (of_sort 0 l.sorts) (drop l.sort-index l.vars) ≡ map (of_sort 0 l.sorts) l.vars
