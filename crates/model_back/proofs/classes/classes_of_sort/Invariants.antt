use Rattle.std.proofs.Common.{◌≡◌, ◌++◌, [], drop}
use Rattle.ground_problem.specs.Classes.{firsts}
use Rattle.ground_problem.specs.Constants.{of_sort}
use Rattle.model_back.specs.Equals.{alike_by}
use Rattle.model_back.proofs.classes.classes_of_sort.Given as goal

abbrev pub invariant-loop-own : goal.invariant-loop-own
invariant-loop-own l = firsts (alike_by l.equals) [] (of_sort 0 l.sorts l.sort) ≡ l.firsts ++ firsts (alike_by l.equals) l.firsts (of_sort l.constant (drop l.own-index l.sorts) l.sort)
