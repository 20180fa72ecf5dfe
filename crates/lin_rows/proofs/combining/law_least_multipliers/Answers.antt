use Rattle.lin_rows.proofs.Least.{factors-least}
use Rattle.lin_rows.proofs.combining.law_least_multipliers.Goals as goal

pub returns : goal.returns
returns c = factors-least
