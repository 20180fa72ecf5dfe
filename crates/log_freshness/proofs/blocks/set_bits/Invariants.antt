use Rattle.std.proofs.Common.{◌≡◌, length}
use Rattle.log_freshness.specs.Blocks.{BitsAre}
use Rattle.log_freshness.proofs.blocks.set_bits.Given as goal

abbrev pub invariant-loop-lit : goal.invariant-loop-lit
invariant-loop-lit l = (length l.masks.items ≡ l.count) × BitsAre l.count l.lits l.place l.initial.masks.items l.masks.items
