use Rattle.ground_numbers.proofs.Meant.{integers-pass}
use Rattle.ground_numbers.proofs.laws.law_integers_are_of_meaning.Goals as goal

pub returns : goal.returns
returns c = λ o m test z h x. integers-pass o m test z h x
