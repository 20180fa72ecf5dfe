use Rattle.std.proofs.Common.{◌≡◌, Some, sym, subst}
use Rattle.proof_report.specs.declared.verdict.Ended.{Ended}
use Rattle.report_verifier.specs.Taking.{ended_as}
use Rattle.report_verifier.specs.Deferring.{judgement_of}
use Rattle.report_verifier.proofs.Deferred.{on_ok}
use Rattle.report_verifier.proofs.judging.end_or_settle.Goals as goal

pub returns-then-branch-clause-ended : goal.returns-then-branch-clause-ended
returns-then-branch-clause-ended c =
    on_ok c.end_proved.result
    (λ h. subst (λ (e : Ended). c.end_proved.new.judging.judgement ≡ ended_as c.args.listed.now.spec.now c.args.budget (Some e) (judgement_of c.args.listed.now.spec.now c.args.judging.now)) (sym c.in-Proved.is) (h c.args.budget))
    c.end_proved.ensures.ended
