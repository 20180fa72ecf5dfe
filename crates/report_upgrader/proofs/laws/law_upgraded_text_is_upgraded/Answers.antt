use Rattle.report_upgrader.proofs.Accepted.{upgraded_again}
use Rattle.report_upgrader.proofs.laws.law_upgraded_text_is_upgraded.Goals as goal

pub returns : goal.returns
returns c = upgraded_again c.law_upgraded_report_is_a_report.ensures c.law_report_upgraded_twice.ensures
