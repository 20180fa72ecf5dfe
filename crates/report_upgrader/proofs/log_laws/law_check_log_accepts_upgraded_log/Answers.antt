use Rattle.report_upgrader.proofs.Runs.{answer-upgraded}
use Rattle.report_upgrader.proofs.log_laws.law_check_log_accepts_upgraded_log.Goals as goal

pub returns : goal.returns
returns c = answer-upgraded
