use Rattle.std.proofs.Common.{◌≡◌, ◌++◌, drop}
use Rattle.ground_problem.specs.Constants.{of_sort}
use Rattle.instances.proofs.equating.of_sort_from.Given as goal

abbrev pub invariant-loop-place : goal.invariant-loop-place
invariant-loop-place l = l.constants ++ of_sort l.place (drop l.place l.sorts) l.sort ≡ of_sort l.from (drop l.from l.sorts) l.sort
