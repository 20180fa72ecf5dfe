use Rattle.report_bytes.proofs.BytesOfReports.{text_bytes_are_fed}
use Rattle.report_bytes.proofs.laws.law_text_bytes_are_fed.Goals as goal

pub returns : goal.returns
returns c = text_bytes_are_fed
