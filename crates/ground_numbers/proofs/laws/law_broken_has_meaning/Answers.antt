use Rattle.ground_numbers.proofs.Whole.{broken_has_meaning}
use Rattle.ground_numbers.proofs.laws.law_broken_has_meaning.Goals as goal

pub returns : goal.returns
returns c = λ d ob w s cs es t br. broken_has_meaning d ob w s cs es t br
