use Rattle.report_upgrader.proofs.Reports.{report-stands}
use Rattle.report_upgrader.proofs.report_laws.law_upgraded_report_is_a_report.Goals as goal

pub returns : goal.returns
returns c = report-stands
