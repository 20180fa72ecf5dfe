use Rattle.ground_numbers.proofs.Whole.{numbers_are_names}
use Rattle.ground_numbers.proofs.laws.law_numbers_are_names.Goals as goal

pub returns : goal.returns
returns c = λ d ob m. numbers_are_names d ob m
