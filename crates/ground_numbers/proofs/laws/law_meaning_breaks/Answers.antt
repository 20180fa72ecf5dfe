use Rattle.ground_numbers.proofs.Whole.{meaning_breaks}
use Rattle.ground_numbers.proofs.laws.law_meaning_breaks.Goals as goal

pub returns : goal.returns
returns c = λ d ob m t io h. meaning_breaks d ob m t io h
