use Rattle.std.proofs.Common.{◌≡◌, drop, true}
use Rattle.std.specs.Prelude.{replicate}
use Rattle.lazy_logs.specs.Drops.{name_left}
use Rattle.lazy_logs.proofs.dropping.drops_well.Given as goal

abbrev pub invariant-loop-line : goal.invariant-loop-line
invariant-loop-line l = name_left (replicate l.many true) l.lines ≡ name_left l.left.items (drop l.line-index l.lines)
