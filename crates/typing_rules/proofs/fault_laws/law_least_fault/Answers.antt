use Rattle.typing_rules.proofs.Least.{answers}
use Rattle.typing_rules.proofs.fault_laws.law_least_fault.Goals as goal

pub returns : goal.returns
returns c = λ t r w. answers t r w
