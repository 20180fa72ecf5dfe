use Rattle.simulate_text.proofs.Safety.{goes_safely, safe_status}
use Rattle.simulate_text.proofs.law.law_safe_simulations.Goals as goal

pub returns-clause-courses : goal.returns-clause-courses
returns-clause-courses c = λ w replicas steps world. goes_safely c.args.spec.now w c.requires world replicas steps

pub returns-clause-schedules : goal.returns-clause-schedules
returns-clause-schedules c = λ bytes. safe_status c.args.spec.now c.requires bytes
