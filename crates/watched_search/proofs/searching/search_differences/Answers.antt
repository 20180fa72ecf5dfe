use Rattle.watched_search.proofs.searching.search_differences.Goals as goal

pub solve-requires : goal.solve-requires
solve-requires c = record { taken = λ h lits rows e. c.law_fits.ensures c.args.problem.now lits rows c.requires e }
