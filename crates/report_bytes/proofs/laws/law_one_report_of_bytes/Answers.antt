use Rattle.report_bytes.proofs.BytesOfReports.{one_report_of_bytes}
use Rattle.report_bytes.proofs.laws.law_one_report_of_bytes.Goals as goal

pub returns : goal.returns
returns c = one_report_of_bytes
