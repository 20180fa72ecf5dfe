use Rattle.lazy_ground.proofs.grounding.ground_lazily.Goals as goal

pub ground_lazily_from-requires-clause-kept : goal.ground_lazily_from-requires-clause-kept
ground_lazily_from-requires-clause-kept c = c.none.ensures c.args.spec.now
