use Rattle.executions.proofs.Safety.{converges}
use Rattle.token_protocol.proofs.Executing.{networks_converge}
use Rattle.token_protocol.proofs.law.law_networks_converge.Goals as goal

pub returns : goal.returns
returns c = networks_converge c.args.spec.now (converges c.args.spec.now c.requires)
