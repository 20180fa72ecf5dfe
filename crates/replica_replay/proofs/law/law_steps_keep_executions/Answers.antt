use Rattle.replica_replay.proofs.Executed.{step_keeps}
use Rattle.replica_replay.proofs.law.law_steps_keep_executions.Goals as goal

pub returns : goal.returns
returns c = λ held is. step_keeps c.args.spec.now c.args.world.now held c.args.step.now is
