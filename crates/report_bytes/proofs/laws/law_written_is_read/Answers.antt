use Rattle.report_bytes.proofs.NoFault.{written_is_read}
use Rattle.report_bytes.proofs.laws.law_written_is_read.Goals as goal

pub returns : goal.returns
returns c = written_is_read
