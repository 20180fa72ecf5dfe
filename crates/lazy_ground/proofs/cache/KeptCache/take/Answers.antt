use Rattle.lazy_ground.proofs.cache.KeptCache.take.Goals as goal

pub returns-else-place-len-clause-taken : goal.returns-else-place-len-clause-taken
returns-else-place-len-clause-taken c = c.none.ensures c.args.spec.now

pub returns-in-None-clause-taken : goal.returns-in-None-clause-taken
returns-in-None-clause-taken c = c.none-in-None.ensures c.args.spec.now
