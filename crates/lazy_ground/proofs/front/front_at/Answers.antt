use Rattle.lazy_ground.proofs.Entries.{front_begun_refused}
use Rattle.lazy_ground.proofs.front.front_at.Goals as goal

pub returns-in-Err : goal.returns-in-Err
returns-in-Err c = front_begun_refused c.args.spec.now c.args.ob.now c.in-Err.error c.in-Err.ensures.begun
