use Rattle.spec_reader.proofs.RoundTrip.{spelled_cut, spelled_same}
use Rattle.spec_reader.proofs.laws.law_spelled_is_read.Goals as goal

pub returns-clause-cut : goal.returns-clause-cut
returns-clause-cut c = spelled_cut

pub returns-clause-same : goal.returns-clause-same
returns-clause-same c = spelled_same
