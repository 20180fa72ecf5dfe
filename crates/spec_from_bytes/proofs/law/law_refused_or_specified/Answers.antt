use Rattle.spec_from_bytes.proofs.Reasons.{refused_or_specified}
use Rattle.spec_from_bytes.proofs.law.law_refused_or_specified.Goals as goal

pub returns : goal.returns
returns c = refused_or_specified
