use Rattle.ground_problem.proofs.Interpret.{first_direction}
use Rattle.ground_problem.proofs.laws.law_broken_has_interpretation.Goals as goal

pub returns : goal.returns
returns c = λ d ob w s cs es t br. first_direction d ob w s cs es t br
