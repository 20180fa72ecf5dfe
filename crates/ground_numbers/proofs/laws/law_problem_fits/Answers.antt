use Rattle.ground_numbers.proofs.Placed.{problem-fits}
use Rattle.ground_numbers.proofs.laws.law_problem_fits.Goals as goal

pub returns : goal.returns
returns c = λ o fs h k. problem-fits o fs h k
