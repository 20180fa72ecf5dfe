use Rattle.check_run.proofs.deciding.decide.Goals as goal

pub decide_from-verdict-requires-clause-kept : goal.decide_from-verdict-requires-clause-kept
decide_from-verdict-requires-clause-kept c = c.none-kept.ensures c.args.spec.now
