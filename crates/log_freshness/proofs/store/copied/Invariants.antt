use Rattle.std.proofs.Common.{◌≡◌, take}
use Rattle.log_freshness.specs.Spans.{clauses_at}
use Rattle.log_freshness.proofs.store.copied.Given as goal

abbrev pub invariant-loop-span : goal.invariant-loop-span
invariant-loop-span l = l.store ≡ clauses_at l.lits (take l.span-index l.spans)
