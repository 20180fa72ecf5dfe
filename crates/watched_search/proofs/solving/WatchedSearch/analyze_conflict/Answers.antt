use Rattle.std.proofs.Common.{sym, subst}
use Rattle.sat_core.specs.declared.checking.Outcome.{Outcome}
use Rattle.sat_core.specs.Outcomes.{IsOutcome, IfContinue}
use Rattle.sat_core.proofs.Outcomes.{analyzed-outcome}
use Rattle.unit_propagation.specs.Ready.{MayContinue}
use Rattle.watched_search.proofs.Continuing.{analyzed-continue, outcome_stays}
use Rattle.watched_search.proofs.solving.WatchedSearch.analyze_conflict.Goals as goal

pub analyze_conflict-requires : goal.analyze_conflict-requires
analyze_conflict-requires c = record { aim = c.requires.chain.aim; before = c.requires.chain.before; chain = c.requires.chain.chain }

pub resume-requires : goal.resume-requires
resume-requires c =
    let s = c.args.self.now.state in
    let r = c.analyze_conflict.new.self in
    let w = c.args.self.now.index.watches in
    record {
      may_continue = subst (λ (z : Outcome). IfContinue z (MayContinue r.grown.clauses r.trail w)) (sym c.outcome-outcome.ensures)
          (analyzed-continue c.analyze_conflict.result c.args.budget s c.args.start r w c.requires.chain c.requires.kept c.analyze_conflict.ensures);
    }

pub returns-clause-outcome : goal.returns-clause-outcome
returns-clause-outcome c = λ a stop x.
    let s = c.args.self.now.state in
    let r = c.analyze_conflict.new.self in
    let o = subst (λ (z : Outcome). IsOutcome z a stop c.args.budget s r) (sym c.outcome-outcome.ensures)
    (analyzed-outcome c.analyze_conflict.result a stop c.args.budget s c.args.start r x c.analyze_conflict.ensures) in
    outcome_stays c.outcome-outcome.result c.resume.result a stop c.args.budget s r c.resume.new.self.state o c.resume.ensures.outcome c.resume.ensures.same
