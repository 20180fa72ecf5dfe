use Rattle.report_bytes.proofs.WrittenBytes.{written_is_report}
use Rattle.report_bytes.proofs.laws.law_written_is_report.Goals as goal

pub returns : goal.returns
returns c = written_is_report
