use Rattle.typing_rules.proofs.Reading.{read_is_written}
use Rattle.typing_rules.proofs.fault_laws.law_read_is_written.Goals as goal

pub returns : goal.returns
returns c = λ bytes words t short cut read. read_is_written bytes words t short cut read
