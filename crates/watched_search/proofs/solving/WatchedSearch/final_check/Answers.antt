use Rattle.std.proofs.Common.{subst}
use Rattle.sat_core.proofs.Outcomes.{aim_of}
use Rattle.watched_search.specs.declared.reducing.Reduced.{Reduced}
use Rattle.watched_search.specs.Reduced.{IsReduced}
use Rattle.watched_search.proofs.Rows.{takes-grown, refutation-of}
use Rattle.watched_search.proofs.solving.WatchedSearch.final_check.Goals as goal

pub ask_reduced-requires : goal.ask_reduced-requires
ask_reduced-requires g c = record {
  taken = takes-grown g.T.Theory.MAY_SPLIT g.T.Theory.takes c.args.problem.now c.args.budget c.args.self.now.state g.met.T.Theory.takes_all c.requires.taken c.requires.search;
}

pub returns-in-Found-clause-outcome : goal.returns-in-Found-clause-outcome
returns-in-Found-clause-outcome g c = subst (λ (z : Reduced). IsReduced z c.args.problem.now c.args.self.now.state) c.in-Found.is c.in-Ok.ensures

pub analyze_theory_conflict-requires : goal.analyze_theory_conflict-requires
analyze_theory_conflict-requires g c =
    let k = subst (λ (z : Reduced). IsReduced z c.args.problem.now c.args.self.now.state) c.in-Clash.is c.in-Ok.ensures in
    record {
      refutation = refutation-of (aim_of c.args.problem.now g.T.Theory.MAY_SPLIT) c.args.budget c.args.self.now.state c.in-Clash.clash.used c.in-Clash.clash.steps c.requires.search c.requires.settled k;
      kept = c.requires.kept;
    }

pub returns-in-Clash-clause-outcome : goal.returns-in-Clash-clause-outcome
returns-in-Clash-clause-outcome g c = c.analyze_theory_conflict.ensures.outcome (aim_of c.args.problem.now g.T.Theory.MAY_SPLIT) g.T.Theory.MAY_STOP c.requires.search
