use Rattle.std.proofs.Common.{◌≡◌, drop}
use Rattle.lazy_logs.specs.Drops.{after_drop}
use Rattle.lazy_logs.proofs.dropping.drop_all.Given as goal

abbrev pub invariant-loop-number : goal.invariant-loop-number
invariant-loop-number l = after_drop l.initial.left.items l.numbers ≡ after_drop l.left.items (drop l.number-index l.numbers)
