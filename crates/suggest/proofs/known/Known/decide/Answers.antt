use Rattle.std.proofs.Common.{Option, subst}
use Rattle.std.specs.Prelude.{IfSome}
use Rattle.proof_report.specs.declared.verdict.Verdict.{Verdict}
use Rattle.report_bytes.specs.Showing.{shown_verdict}
use Rattle.check_run.specs.Good.{IsGood}
use Rattle.suggest.proofs.known.Known.decide.Goals as goal

pub returns-in-Some-clause-good : goal.returns-in-Some-clause-good
returns-in-Some-clause-good c =
    subst (λ (o : Option Verdict). IfSome o (λ (v : Verdict). IsGood c.args.spec.now c.args.budget c.args.ob.now (shown_verdict c.args.spec.now v))) c.in-Some.is
    (c.in_ok-verdict.ensures.good c.args.budget)
