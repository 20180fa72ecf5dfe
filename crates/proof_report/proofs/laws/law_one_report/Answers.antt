use Rattle.proof_report.proofs.Whole.{report_is_one}
use Rattle.proof_report.proofs.laws.law_one_report.Goals as goal

pub returns : goal.returns
returns c = report_is_one
