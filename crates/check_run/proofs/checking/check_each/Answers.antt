use Rattle.check_run.proofs.checking.check_each.Goals as goal

pub check_from-result-requires-clause-kept : goal.check_from-result-requires-clause-kept
check_from-result-requires-clause-kept g c = c.new-cache.ensures c.args.spec.now
