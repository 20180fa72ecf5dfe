use Rattle.std.proofs.Common.{◌≡◌}
use Rattle.conflict_variants.specs.Keyed.{unused_below}
use Rattle.conflict_variants.proofs.naming.unused_names.Given as goal

abbrev pub invariant-loop-number : goal.invariant-loop-number
invariant-loop-number l = l.names ≡ unused_below l.spec l.number
