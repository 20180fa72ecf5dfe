use Rattle.std.proofs.Common.{ℕ, ◌<◌, length, Some, sym, subst}
use Rattle.sat_core.specs.declared.finding.Found.{Found}
use Rattle.sat_core.specs.declared.state.SearchState.{SearchState}
use Rattle.sat_core.specs.Searching.{IsFound}
use Rattle.sat_core.specs.Outcomes.{IsOutcome}
use Rattle.sat_core.proofs.Resolving.{chain_begins, chain_begins-start}
use Rattle.sat_core.proofs.Outcomes.{aim_of, pushed-outcome, forced-step}
use Rattle.unit_propagation.specs.Ready.{StayWatched}
use Rattle.watched_search.proofs.solving.WatchedSearch.advance.Goals as goal

pub analyze_conflict-requires-clause-chain : goal.analyze_conflict-requires-clause-chain
analyze_conflict-requires-clause-chain g c =
    let s = c.args.self.now.state in
    let h = subst (λ (z : Found). IsFound z s.grown.clauses s.trail) c.in-Conflict.is c.in-Ok.ensures.found in
    let a = aim_of c.args.problem.now g.T.Theory.MAY_SPLIT in
    record {
      aim = a;
      before = length s.log;
      chain = chain_begins a c.args.budget s c.in-Conflict.start c.requires.search h.0 h.1 h.2;
      whole = chain_begins-start a c.args.budget s c.in-Conflict.start c.requires.search h.0 h.1 h.2;
    }

pub analyze_conflict-requires-clause-kept : goal.analyze_conflict-requires-clause-kept
analyze_conflict-requires-clause-kept g c =
    let s = c.args.self.now.state in
    subst (λ (z : Found). StayWatched z s.grown.clauses s.trail c.find.new.self.watches) c.in-Conflict.is c.in-Ok.ensures.watched

pub returns-in-Conflict-clause-outcome : goal.returns-in-Conflict-clause-outcome
returns-in-Conflict-clause-outcome g c =
    let s = c.args.self.now.state in
    let a = aim_of c.args.problem.now g.T.Theory.MAY_SPLIT in
    let h = subst (λ (z : Found). IsFound z s.grown.clauses s.trail) c.in-Conflict.is c.in-Ok.ensures.found in
    c.analyze_conflict.ensures.outcome a g.T.Theory.MAY_STOP (chain_begins a c.args.budget s c.in-Conflict.start c.requires.search h.0 h.1 h.2)

pub assign-requires-clause-watched : goal.assign-requires-clause-watched
assign-requires-clause-watched g c =
    let s = c.args.self.now.state in
    subst (λ (z : Found). StayWatched z s.grown.clauses s.trail c.find.new.self.watches) c.in-Forced.is c.in-Ok.ensures.watched

pub returns-in-Forced-clause-outcome : goal.returns-in-Forced-clause-outcome
returns-in-Forced-clause-outcome g c =
    let s = c.args.self.now.state in
    let a = aim_of c.args.problem.now g.T.Theory.MAY_SPLIT in
    let h = subst (λ (z : Found). IsFound z s.grown.clauses s.trail) c.in-Forced.is c.in-Ok.ensures.found in
    let f = forced-step a c.args.budget s c.in-Forced.reason c.in-Forced.lit c.requires.search h in
    subst (λ (z : SearchState). IsOutcome c.assign.result a g.T.Theory.MAY_STOP c.args.budget s z) (sym c.assign.ensures.same)
    (pushed-outcome c.assign.result a g.T.Theory.MAY_STOP c.args.budget s c.in-Forced.lit (Some c.in-Forced.reason) c.assign.new.self.state.trail
    c.requires.search h.2 f.0 f.1 (h.0, h.1) c.assign.ensures.pushed)

pub decide-requires-clause-settled : goal.decide-requires-clause-settled
decide-requires-clause-settled g c =
    let s = c.args.self.now.state in
    (subst (λ (z : Found). IsFound z s.grown.clauses s.trail) c.in-Nothing.is c.in-Ok.ensures.found).0

pub decide-requires-clause-atom : goal.decide-requires-clause-atom
decide-requires-clause-atom g c = subst (λ (n : ℕ). c.in-Some.atom < n) c.atom_count-atoms.ensures c.in-Some.ensures.0

pub decide-requires-clause-open : goal.decide-requires-clause-open
decide-requires-clause-open g c = c.in-Some.ensures.1

pub decide-requires-clause-kept : goal.decide-requires-clause-kept
decide-requires-clause-kept g c =
    let s = c.args.self.now.state in
    (subst (λ (z : Found). StayWatched z s.grown.clauses s.trail c.find.new.self.watches) c.in-Nothing.is c.in-Ok.ensures.watched).0

pub decide-requires-clause-rest : goal.decide-requires-clause-rest
decide-requires-clause-rest g c =
    let s = c.args.self.now.state in
    (subst (λ (z : Found). StayWatched z s.grown.clauses s.trail c.find.new.self.watches) c.in-Nothing.is c.in-Ok.ensures.watched).1

pub final_check-requires-clause-settled : goal.final_check-requires-clause-settled
final_check-requires-clause-settled g c =
    let s = c.args.self.now.state in
    (subst (λ (z : Found). IsFound z s.grown.clauses s.trail) c.in-Nothing.is c.in-Ok.ensures.found).0

pub final_check-requires-clause-kept : goal.final_check-requires-clause-kept
final_check-requires-clause-kept g c =
    let s = c.args.self.now.state in
    (subst (λ (z : Found). StayWatched z s.grown.clauses s.trail c.find.new.self.watches) c.in-Nothing.is c.in-Ok.ensures.watched).0

pub final_check-requires-clause-rest : goal.final_check-requires-clause-rest
final_check-requires-clause-rest g c =
    let s = c.args.self.now.state in
    (subst (λ (z : Found). StayWatched z s.grown.clauses s.trail c.find.new.self.watches) c.in-Nothing.is c.in-Ok.ensures.watched).1
