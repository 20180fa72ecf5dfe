use Rattle.std.proofs.lemmas.Slice.Eq.{slice_eq-Decides}
use Rattle.lazy_logs.proofs.Same.{step_Decides}
use Rattle.lazy_logs.proofs.comparing.same_steps.Goals as goal

pub returns : goal.returns
returns c = (slice_eq-Decides step_Decides c.args.left.now c.args.right.now c.eq.result c.eq.ensures).0
