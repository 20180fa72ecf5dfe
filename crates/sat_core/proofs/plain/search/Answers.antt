use Rattle.std.proofs.Common.{sym, ◌∙◌}
use Rattle.sat_core.proofs.Ends.{at_once}
use Rattle.sat_core.proofs.plain.search.Goals as goal

pub returns-then-holds_empty : goal.returns-then-holds_empty
returns-then-holds_empty g c = at_once g.T.Theory.MAY_SPLIT c.args.problem.now c.args.budget c.new.result c.new.ensures (sym c.holds_empty.ensures ∙ c.if-holds_empty.true)

pub search_on-requires-clause-search : goal.search_on-requires-clause-search
search_on-requires-clause-search g c = c.in-Ok.ensures.search g.T.Theory.MAY_SPLIT c.args.budget
