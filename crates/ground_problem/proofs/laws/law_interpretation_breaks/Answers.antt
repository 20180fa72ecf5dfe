use Rattle.ground_problem.proofs.Second.{second_direction}
use Rattle.ground_problem.proofs.laws.law_interpretation_breaks.Goals as goal

pub returns : goal.returns
returns c = λ d ob m t io h. second_direction d ob m t io h
