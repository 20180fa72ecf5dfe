use Rattle.watched_search.proofs.Solvers.{no_rows}
use Rattle.watched_search.proofs.searching.search_plain.Goals as goal

pub solve-requires : goal.solve-requires
solve-requires c = record { taken = λ h lits rows e. (no_rows c.args.problem.now.atoms lits rows c.requires.plain e, c.requires.no_ints) }
