use Rattle.std.proofs.Common.{◌≡◌, ◌≤◌, ◌*◌}
use Rattle.instances.specs.Pairs.{pair_count}
use Rattle.lazy_ground.proofs.choosing.count_pairs.Given as goal

abbrev pub invariant-loop-earlier : goal.invariant-loop-earlier
invariant-loop-earlier l = record {
  count : l.pairs ≡ pair_count l.earlier;
  few : l.pairs ≤ 250 * l.earlier;
}
