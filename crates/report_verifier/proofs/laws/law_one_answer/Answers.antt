use Rattle.report_verifier.proofs.Answers.{one_answer}
use Rattle.report_verifier.proofs.laws.law_one_answer.Goals as goal

pub returns : goal.returns
returns c = λ d bytes x y ok. one_answer d bytes ok x y
