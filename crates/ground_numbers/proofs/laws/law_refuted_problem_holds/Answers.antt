use Rattle.ground_numbers.proofs.Whole.{no_meaning_holds}
use Rattle.ground_numbers.proofs.laws.law_refuted_problem_holds.Goals as goal

pub returns : goal.returns
returns c = λ d ob t none. no_meaning_holds d ob t none
