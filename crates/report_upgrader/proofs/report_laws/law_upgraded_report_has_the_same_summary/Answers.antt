use Rattle.proof_report.specs.Events.{no_verdicts}
use Rattle.report_upgrader.proofs.Reports.{same-summary}
use Rattle.report_upgrader.proofs.report_laws.law_upgraded_report_has_the_same_summary.Goals as goal

pub returns : goal.returns
returns c = λ r. same-summary r.verdicts no_verdicts
