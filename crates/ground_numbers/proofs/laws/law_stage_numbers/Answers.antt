use Rattle.ground_numbers.proofs.Staged.{same_stage, stage_of-made}
use Rattle.ground_numbers.proofs.laws.law_stage_numbers.Goals as goal

pub returns-clause-same : goal.returns-clause-same
returns-clause-same c = λ m n. same_stage m n

pub returns-clause-made : goal.returns-clause-made
returns-clause-made c = λ n. stage_of-made n
