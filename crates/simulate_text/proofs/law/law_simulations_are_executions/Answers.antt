use Rattle.simulate_text.proofs.Safety.{is_executed}
use Rattle.simulate_text.proofs.law.law_simulations_are_executions.Goals as goal

pub returns : goal.returns
returns c = λ d w replicas steps. is_executed d w replicas steps
