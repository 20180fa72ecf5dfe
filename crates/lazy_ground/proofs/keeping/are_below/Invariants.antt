use Rattle.std.proofs.Common.{◌≡◌, drop}
use Rattle.lazy_ground.specs.Named.{numbers_below}
use Rattle.lazy_ground.proofs.keeping.are_below.Given as goal

abbrev pub invariant-loop-some : goal.invariant-loop-some
invariant-loop-some l = numbers_below l.count (drop l.some-index l.pairs) ≡ numbers_below l.count l.pairs
