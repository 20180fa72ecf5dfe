use Rattle.std.proofs.Common.{◌≡◌, ◌≤◌, ◌+◌, drop, length, map}
use Rattle.ground_problem.specs.Equality.{congruence}
use Rattle.ground_problem.specs.Problem.{most_formulas}
use Rattle.ground_atoms.specs.Symbols.{reading_of}
use Rattle.lazy_ground.proofs.choosing.count_equal.Given as goal

abbrev pub invariant-loop-thing : goal.invariant-loop-thing
invariant-loop-thing l = record {
  count : l.count + length (congruence (map reading_of l.readings) (drop l.thing-index l.things)) ≡ length (congruence (map reading_of l.readings) l.things);
  few : l.count ≤ most_formulas;
}
