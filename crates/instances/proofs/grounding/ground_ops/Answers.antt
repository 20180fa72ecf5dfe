use Rattle.instances.proofs.Shared.{begun_refused}
use Rattle.instances.proofs.grounding.ground_ops.Goals as goal

pub returns-in-Err-clause-ground : goal.returns-in-Err-clause-ground
returns-in-Err-clause-ground c = begun_refused c.args.spec.now c.args.ob.now c.in-Err.refused c.in-Err.ensures.begun
