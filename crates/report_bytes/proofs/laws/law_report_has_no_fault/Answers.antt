use Rattle.report_bytes.proofs.NoFault.{report_has_no_fault}
use Rattle.report_bytes.proofs.laws.law_report_has_no_fault.Goals as goal

pub returns : goal.returns
returns c = report_has_no_fault
