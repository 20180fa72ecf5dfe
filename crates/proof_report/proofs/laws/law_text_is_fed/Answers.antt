use Rattle.proof_report.proofs.Whole.{report_text_is_fed, report_gathered}
use Rattle.proof_report.proofs.laws.law_text_is_fed.Goals as goal

pub returns : goal.returns
returns c = record { fed = report_text_is_fed; said = report_gathered }
