use Rattle.report_upgrader.proofs.Runs.{run-upgraded}
use Rattle.report_upgrader.proofs.log_laws.law_upgraded_log_stands.Goals as goal

pub returns : goal.returns
returns c = run-upgraded
