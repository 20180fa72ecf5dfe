use Rattle.check_run.proofs.counting.decide_each.Goals as goal

pub decide_from-result-requires-clause-kept : goal.decide_from-result-requires-clause-kept
decide_from-result-requires-clause-kept c = c.new-cache.ensures c.args.spec.now
