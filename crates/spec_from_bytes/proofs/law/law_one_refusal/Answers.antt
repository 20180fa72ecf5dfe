use Rattle.spec_from_bytes.proofs.Reasons.{refusal_is_unique}
use Rattle.spec_from_bytes.proofs.law.law_one_refusal.Goals as goal

pub returns : goal.returns
returns c = refusal_is_unique
