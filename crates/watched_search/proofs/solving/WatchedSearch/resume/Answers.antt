use Rattle.std.proofs.Common.{subst}
use Rattle.sat_core.specs.declared.checking.Outcome.{Outcome}
use Rattle.sat_core.specs.Outcomes.{IfContinue}
use Rattle.unit_propagation.specs.Ready.{MayContinue}
use Rattle.watched_search.proofs.solving.WatchedSearch.resume.Goals as goal

pub resume-requires-clause-few : goal.resume-requires-clause-few
resume-requires-clause-few c =
    let w = c.args.self.now in
    (subst (λ (z : Outcome). IfContinue z (MayContinue w.state.grown.clauses w.state.trail w.index.watches)) c.in-Continue.is c.requires.may_continue).0

pub resume-requires-clause-resumed : goal.resume-requires-clause-resumed
resume-requires-clause-resumed c =
    let w = c.args.self.now in
    (subst (λ (z : Outcome). IfContinue z (MayContinue w.state.grown.clauses w.state.trail w.index.watches)) c.in-Continue.is c.requires.may_continue).1
