use Rattle.std.proofs.Common.{◌∙◌}
use Rattle.ground_groups.proofs.Lists.{group_next, group_refused}
use Rattle.ground_groups.proofs.conflicting.add_rules.Goals as goal

pub returns-in-Err : goal.returns-in-Err
returns-in-Err c = group_refused _ c.args.rules.now c.loop-rule.rule-index c.rule-item.result c.loop-rule-test.true c.rule-item.is _ _ _ _ c.loop-rule.invariant c.in-Err.ensures

pub loop-rule-preserved : goal.loop-rule-preserved
loop-rule-preserved c = group_next _ c.args.rules.now c.loop-rule.rule-index c.rule-item.result c.loop-rule-test.true c.rule-item.is _ _ _ _ c.in-Ok.ensures ∙ c.loop-rule.invariant
