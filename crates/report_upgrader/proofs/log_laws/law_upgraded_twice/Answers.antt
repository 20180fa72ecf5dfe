use Rattle.report_upgrader.proofs.Names.{upgraded-twice}
use Rattle.report_upgrader.proofs.log_laws.law_upgraded_twice.Goals as goal

pub returns : goal.returns
returns c = upgraded-twice
