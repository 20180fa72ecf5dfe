use Rattle.proof_report.proofs.Whole.{fed_is_text}
use Rattle.proof_report.proofs.laws.law_fed_is_text.Goals as goal

pub returns : goal.returns
returns c = fed_is_text
