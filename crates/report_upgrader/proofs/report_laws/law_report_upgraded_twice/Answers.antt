use Rattle.report_upgrader.proofs.Reports.{report-twice}
use Rattle.report_upgrader.proofs.report_laws.law_report_upgraded_twice.Goals as goal

pub returns : goal.returns
returns c = report-twice
