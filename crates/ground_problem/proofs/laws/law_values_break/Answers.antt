use Rattle.ground_problem.proofs.Second.{entry_breaks}
use Rattle.ground_problem.proofs.laws.law_values_break.Goals as goal

pub returns : goal.returns
returns c = λ d ob m s t io h fits entry. entry_breaks d ob m s t io h fits entry
