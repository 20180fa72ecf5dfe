use Rattle.std.proofs.Common.{◌∙◌}
use Rattle.ground_groups.proofs.Lists.{group_next, group_refused}
use Rattle.ground_groups.proofs.conflicting.add_with_each.Goals as goal

pub returns-in-Err : goal.returns-in-Err
returns-in-Err c = group_refused _ c.args.lines.now c.loop-line.line-index c.line-item.result c.loop-line-test.true c.line-item.is _ _ _ _ c.loop-line.invariant c.in-Err.ensures

pub loop-line-preserved : goal.loop-line-preserved
loop-line-preserved c = group_next _ c.args.lines.now c.loop-line.line-index c.line-item.result c.loop-line-test.true c.line-item.is _ _ _ _ c.in-Ok.ensures ∙ c.loop-line.invariant
