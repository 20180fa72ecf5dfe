use Rattle.sat_core.specs.Searching.{InSearch, work}
use Rattle.sat_core.proofs.Outcomes.{aim_of}
use Rattle.unit_propagation.specs.Ready.{IsReady}
use Rattle.watched_search.proofs.solving.WatchedSearch.search_on.Given as goal

abbrev pub invariant-search : goal.invariant-search
invariant-search g l = InSearch (aim_of l.problem g.T.Theory.MAY_SPLIT) l.budget l.self.state × IsReady l.self.state.grown.clauses l.self.state.trail l.self.index

abbrev pub decreases-search : goal.decreases-search
decreases-search g l = work (aim_of l.problem g.T.Theory.MAY_SPLIT) l.budget l.self.state
