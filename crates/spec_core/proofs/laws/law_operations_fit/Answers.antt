use Rattle.spec_core.proofs.Operations.{call_parts}
use Rattle.spec_core.proofs.laws.law_operations_fit.Goals as goal

pub returns : goal.returns
returns c = λ d w call well world fits. (call_parts d w call well world fits).fits
