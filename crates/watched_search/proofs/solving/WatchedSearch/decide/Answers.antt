use Rattle.std.proofs.Common.{Option, None, sym, subst}
use Rattle.std.specs.Prelude.{IfSome}
use Rattle.proof_lines.specs.Clauses.{lit_of}
use Rattle.sat_core.specs.declared.state.SearchState.{SearchState}
use Rattle.sat_core.specs.Outcomes.{IsOutcome}
use Rattle.sat_core.proofs.Checked.{none_false}
use Rattle.sat_core.proofs.Outcomes.{aim_of, pushed-outcome}
use Rattle.watched_search.specs.declared.early.Clash.{Clash}
use Rattle.watched_search.specs.Early.{IsClash}
use Rattle.watched_search.proofs.Rows.{takes-grown, refutation-of}
use Rattle.watched_search.proofs.solving.WatchedSearch.decide.Goals as goal

pub theory_propagate-requires : goal.theory_propagate-requires
theory_propagate-requires g c = record {
  taken = takes-grown g.T.Theory.MAY_SPLIT g.T.Theory.takes c.args.problem.now c.args.budget c.args.self.now.state g.met.T.Theory.takes_all c.requires.taken c.requires.search;
}

pub analyze_theory_conflict-requires-clause-refutation : goal.analyze_theory_conflict-requires-clause-refutation
analyze_theory_conflict-requires-clause-refutation g c =
    let s = c.args.self.now.state in
    let k = subst (λ (z : Option Clash). IfSome z (λ x. IsClash s.grown s.trail x.used x.steps)) c.in-Some.is c.in-Ok.ensures in
    refutation-of (aim_of c.args.problem.now g.T.Theory.MAY_SPLIT) c.args.budget s c.in-Some.clash.used c.in-Some.clash.steps c.requires.search c.requires.settled k

pub returns-in-Some-clause-outcome : goal.returns-in-Some-clause-outcome
returns-in-Some-clause-outcome g c = c.analyze_theory_conflict.ensures.outcome (aim_of c.args.problem.now g.T.Theory.MAY_SPLIT) g.T.Theory.MAY_STOP c.requires.search

pub returns-in-None-clause-outcome : goal.returns-in-None-clause-outcome
returns-in-None-clause-outcome g c =
    let s = c.args.self.now.state in
    let a = aim_of c.args.problem.now g.T.Theory.MAY_SPLIT in
    subst (λ (z : SearchState). IsOutcome c.assign.result a g.T.Theory.MAY_STOP c.args.budget s z) (sym c.assign.ensures.same)
    (pushed-outcome c.assign.result a g.T.Theory.MAY_STOP c.args.budget s (lit_of c.args.atom c.sign-positive.result) None c.assign.new.self.state.trail
    c.requires.search (none_false s.grown.clauses s.trail c.requires.settled) c.requires.open c.requires.atom c.requires.settled c.assign.ensures.pushed)
