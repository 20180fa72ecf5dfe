use Rattle.spec_reader.proofs.Bytes.{one_spelling}
use Rattle.spec_reader.proofs.parsing.law_one_spelling.Goals as goal

pub returns : goal.returns
returns c = one_spelling
