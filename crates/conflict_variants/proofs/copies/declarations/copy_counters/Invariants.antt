use Rattle.std.proofs.Common.{◌≡◌, take}
use Rattle.conflict_variants.proofs.copies.declarations.copy_counters.Given as goal

abbrev pub invariant-loop-counter : goal.invariant-loop-counter
invariant-loop-counter l = l.copies ≡ take l.counter-index l.counters
