use Rattle.std.proofs.Common.{◌∙◌}
use Rattle.ground_groups.proofs.Lists.{group_next, group_refused}
use Rattle.ground_groups.proofs.entry.add_each.Goals as goal

pub returns-in-Err : goal.returns-in-Err
returns-in-Err c = group_refused _ c.args.invariants.now c.loop-invariant.invariant-index c.invariant-item.result c.loop-invariant-test.true c.invariant-item.is _ _ _ _ c.loop-invariant.invariant c.in-Err.ensures

pub loop-invariant-preserved : goal.loop-invariant-preserved
loop-invariant-preserved c = group_next _ c.args.invariants.now c.loop-invariant.invariant-index c.invariant-item.result c.loop-invariant-test.true c.invariant-item.is _ _ _ _ c.in-Ok.ensures ∙ c.loop-invariant.invariant
