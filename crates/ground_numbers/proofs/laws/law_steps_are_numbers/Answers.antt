use Rattle.ground_numbers.proofs.Stepping.{steps_after-is}
use Rattle.ground_numbers.proofs.laws.law_steps_are_numbers.Goals as goal

pub returns : goal.returns
returns c = λ done o fs. steps_after-is done o fs
