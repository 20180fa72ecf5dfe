use Rattle.watched_search.proofs.solving.search_in.Goals as goal

pub search_on-requires-clause-search : goal.search_on-requires-clause-search
search_on-requires-clause-search g c = c.in-Ok.ensures.search g.T.Theory.MAY_SPLIT c.args.budget
