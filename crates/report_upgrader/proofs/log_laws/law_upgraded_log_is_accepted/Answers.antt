use Rattle.report_upgrader.proofs.Runs.{accepted-upgraded}
use Rattle.report_upgrader.proofs.log_laws.law_upgraded_log_is_accepted.Goals as goal

pub returns : goal.returns
returns c = accepted-upgraded
