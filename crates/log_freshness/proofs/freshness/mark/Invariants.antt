use Rattle.std.proofs.Common.{◌≡◌, drop, length}
use Rattle.log_freshness.specs.Index.{with_marks}
use Rattle.log_freshness.proofs.freshness.mark.Given as goal

abbrev pub invariant-loop-lit : goal.invariant-loop-lit
invariant-loop-lit l = (length l.marks.items ≡ l.count) × (with_marks l.count l.initial.marks.items l.lits l.value ≡ with_marks l.count l.marks.items (drop l.lit-index l.lits) l.value)
