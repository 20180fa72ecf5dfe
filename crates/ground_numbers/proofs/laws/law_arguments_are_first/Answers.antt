use Rattle.ground_numbers.proofs.Arguments.{arguments-first}
use Rattle.ground_numbers.proofs.laws.law_arguments_are_first.Goals as goal

pub returns : goal.returns
returns c = λ d ob. arguments-first d ob
