use Rattle.std.proofs.Common.{sym, subst}
use Rattle.sat_core.specs.declared.checking.Outcome.{Outcome}
use Rattle.sat_core.specs.Outcomes.{IsOutcome, IfContinue}
use Rattle.sat_core.proofs.Outcomes.{learned-outcome}
use Rattle.unit_propagation.specs.Ready.{MayContinue}
use Rattle.watched_search.proofs.Continuing.{outcome_stays}
use Rattle.watched_search.proofs.Rows.{learned-continue}
use Rattle.watched_search.proofs.solving.WatchedSearch.analyze_theory_conflict.Goals as goal

pub resume-requires : goal.resume-requires
resume-requires c =
    let s = c.args.self.now.state in
    let r = c.refute.new.self in
    let w = c.args.self.now.index.watches in
    record {
      may_continue = subst (λ (z : Outcome). IfContinue z (MayContinue r.grown.clauses r.trail w)) (sym c.outcome-outcome.ensures)
          (learned-continue c.refute.result c.args.budget s r c.requires.refutation.aim w c.requires.refutation.search c.requires.kept c.refute.ensures);
    }

pub returns-clause-outcome : goal.returns-clause-outcome
returns-clause-outcome c = λ a stop x.
    let s = c.args.self.now.state in
    let r = c.refute.new.self in
    let o = subst (λ (z : Outcome). IsOutcome z a stop c.args.budget s r) (sym c.outcome-outcome.ensures)
    (learned-outcome c.refute.result a stop c.args.budget s r x c.refute.ensures) in
    outcome_stays c.outcome-outcome.result c.resume.result a stop c.args.budget s r c.resume.new.self.state o c.resume.ensures.outcome c.resume.ensures.same
