use Rattle.std.proofs.Common.{◌≡◌, take, length}
use Rattle.log_freshness.specs.Spans.{marked}
use Rattle.log_freshness.proofs.store.mark.Given as goal

abbrev pub invariant-loop-number : goal.invariant-loop-number
invariant-loop-number l = (l.spans.items ≡ marked l.initial.spans.items (take l.number-index l.numbers)) × (length l.spans.items ≡ length l.initial.spans.items)
