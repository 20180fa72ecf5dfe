use Rattle.report_verifier.proofs.Valid.{valid, sound}
use Rattle.report_verifier.proofs.laws.law_valid_verdicts.Goals as goal

pub returns : goal.returns
returns c = λ d version budget line ob v fit. (valid d version budget line ob v fit, sound d budget line ob v)
