use Rattle.spec_from_bytes.proofs.Reasons.{specification_unique}
use Rattle.spec_from_bytes.proofs.law.law_one_specification.Goals as goal

pub returns : goal.returns
returns c = specification_unique
