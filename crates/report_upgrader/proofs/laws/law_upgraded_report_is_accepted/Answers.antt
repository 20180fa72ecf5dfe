use Rattle.report_upgrader.proofs.Accepted.{upgraded_accepted}
use Rattle.report_upgrader.proofs.laws.law_upgraded_report_is_accepted.Goals as goal

pub returns : goal.returns
returns c = upgraded_accepted c.law_upgraded_log_is_accepted.ensures c.law_valid_verdicts.ensures c.law_upgraded_report_is_a_report.ensures c.law_upgraded_report_has_the_same_summary.ensures
