use Rattle.ground_groups.proofs.Lists.{seq, seq_refused}
use Rattle.instances.proofs.grounding.add_equal.Goals as goal

pub returns-in-Err : goal.returns-in-Err
returns-in-Err c = seq_refused c.in-Err.refused _ _ _ _ c.in-Err.ensures

pub returns : goal.returns
returns c = seq c.add_congruence.result _ _ _ _ _ c.in-Ok.ensures c.add_congruence.ensures
