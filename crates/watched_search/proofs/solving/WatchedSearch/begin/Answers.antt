use Rattle.std.proofs.Common.{List, [], false, sym, subst}
use Rattle.sat_core.specs.declared.trail.Entry.{Entry}
use Rattle.sat_core.specs.Trails.{NoneFalse, older}
use Rattle.sat_core.specs.declared.state.SearchState.{SearchState}
use Rattle.sat_core.specs.Searching.{InSearch}
use Rattle.sat_core.proofs.Outcomes.{aim_of}
use Rattle.unit_propagation.specs.Watches.{IsResumed}
use Rattle.unit_propagation.proofs.Changing.{resumed_first}
use Rattle.watched_search.proofs.solving.WatchedSearch.begin.Goals as goal

pub watch-requires-clause-few : goal.watch-requires-clause-few
watch-requires-clause-few c = (c.in_ok-state.ensures.search false 0).keeps.few_clauses

pub watch-requires-clause-resumed : goal.watch-requires-clause-resumed
watch-requires-clause-resumed c =
    let s = c.in_ok-state.state in
    let w = c.new.result.watches in
    let x = c.in_ok-state.ensures.search false 0 in
    let n : NoneFalse [] s.grown.clauses = subst (λ (z : List Entry). NoneFalse (older z) s.grown.clauses) c.in_ok-state.ensures.trail x.calm in
    subst (λ (z : List Entry). IsResumed s.grown.clauses z w) (sym c.in_ok-state.ensures.trail) (resumed_first s.grown.clauses w c.new.ensures n)

pub returns-clause-search : goal.returns-clause-search
returns-clause-search c = λ split budget.
    subst (λ (z : SearchState). InSearch (aim_of c.args.problem.now split) budget z) (sym c.watch.ensures.same) (c.in_ok-state.ensures.search split budget)
