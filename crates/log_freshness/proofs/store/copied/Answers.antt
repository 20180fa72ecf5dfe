use Rattle.log_freshness.proofs.Spans.{apart-at}
use Rattle.log_freshness.proofs.store.copied.Goals as goal

pub push_at-requires-clause-apart : goal.push_at-requires-clause-apart
push_at-requires-clause-apart c = apart-at c.args.lits.now c.args.spans.now c.loop-span.span-index _ c.requires c.loop-span-test.true
