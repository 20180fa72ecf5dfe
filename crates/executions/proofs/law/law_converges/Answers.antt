use Rattle.executions.proofs.Safety.{converges}
use Rattle.executions.proofs.law.law_converges.Goals as goal

pub returns : goal.returns
returns c = converges c.args.spec.now c.requires
