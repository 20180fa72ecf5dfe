use Rattle.report_bytes.proofs.BytesOfReports.{bytes_are_text}
use Rattle.report_bytes.proofs.laws.law_bytes_are_text.Goals as goal

pub returns : goal.returns
returns c = bytes_are_text
