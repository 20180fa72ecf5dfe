use Rattle.typing_rules.proofs.Whole.{typing_well}
use Rattle.typing_rules.proofs.laws.law_typed_is_well_formed.Goals as goal

pub returns : goal.returns
returns c = λ t d. typing_well t d
