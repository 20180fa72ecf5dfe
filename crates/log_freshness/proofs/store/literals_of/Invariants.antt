use Rattle.std.proofs.Common.{◌≡◌, ◌+◌, drop}
use Rattle.log_freshness.specs.Spans.{counts_of}
use Rattle.log_freshness.proofs.store.literals_of.Given as goal

abbrev pub invariant-loop-number : goal.invariant-loop-number
invariant-loop-number l = l.sum + counts_of l.spans (drop l.number-index l.numbers) ≡ counts_of l.spans l.numbers
