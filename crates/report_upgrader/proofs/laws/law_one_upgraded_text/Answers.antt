use Rattle.report_upgrader.proofs.Accepted.{one_upgraded}
use Rattle.report_upgrader.proofs.laws.law_one_upgraded_text.Goals as goal

pub returns : goal.returns
returns c = one_upgraded
