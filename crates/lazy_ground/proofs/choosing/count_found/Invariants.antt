use Rattle.std.proofs.Common.{◌≡◌, ◌≤◌, ◌+◌, drop, length}
use Rattle.std.specs.List.{flat_map}
use Rattle.ground_problem.specs.Problem.{most_formulas}
use Rattle.lazy_ground.specs.Pairs.{pairs_of}
use Rattle.lazy_ground.proofs.choosing.count_found.Given as goal

abbrev pub invariant-loop-some : goal.invariant-loop-some
invariant-loop-some l = record {
  count : l.count + length (flat_map pairs_of (drop l.some-index l.pairs)) ≡ length (flat_map pairs_of l.pairs);
  few : l.count ≤ most_formulas;
}
