use Rattle.std.proofs.Common.{◌≤◌}
use Rattle.instances.specs.Pairs.{pair_count}
use Rattle.instances.proofs.agreeing.count_pairs.Given as goal

abbrev pub invariant-loop-earlier : goal.invariant-loop-earlier
invariant-loop-earlier l = l.pairs ≤ pair_count l.earlier
