use Rattle.std.proofs.Common.{◌∙◌}
use Rattle.ground_groups.proofs.Lists.{group_next, group_refused}
use Rattle.ground_groups.proofs.defining.add_each_definition.Goals as goal

pub returns-in-Err : goal.returns-in-Err
returns-in-Err c = group_refused _ c.args.readings.now c.loop-reading.reading-index c.reading-item.result c.loop-reading-test.true c.reading-item.is _ _ _ _ c.loop-reading.invariant c.in-Err.ensures

pub loop-reading-preserved : goal.loop-reading-preserved
loop-reading-preserved c = group_next _ c.args.readings.now c.loop-reading.reading-index c.reading-item.result c.loop-reading-test.true c.reading-item.is _ _ _ _ c.in-Ok.ensures ∙ c.loop-reading.invariant
