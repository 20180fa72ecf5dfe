use Rattle.std.proofs.Common.{◌≡◌, ◌++◌, drop}
use Rattle.ground_problem.specs.Constants.{of_sort}
use Rattle.ground_groups.proofs.assigning.of_sort.Given as goal

abbrev pub invariant-loop-place : goal.invariant-loop-place
invariant-loop-place l = l.constants ++ of_sort l.place (drop l.place l.sorts) l.sort ≡ of_sort 0 l.sorts l.sort
