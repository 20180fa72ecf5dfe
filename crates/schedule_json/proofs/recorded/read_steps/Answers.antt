use Rattle.std.proofs.Common.{inr}
use Rattle.schedule_json.proofs.Results.{ok_along, err_along, steps_of-list, steps_of-long}
use Rattle.schedule_json.proofs.recorded.read_steps.Goals as goal

pub returns-then-list-gt-MOST_STEPS-clause-err : goal.returns-then-list-gt-MOST_STEPS-clause-err
returns-then-list-gt-MOST_STEPS-clause-err c = inr (steps_of-long _ c.in-Some.list.now c.in-Some.ensures c.if-list-gt-MOST_STEPS.true)

pub returns-clause-ok : goal.returns-clause-ok
returns-clause-ok c =
    ok_along c.read_each_step.result _ _ (steps_of-list _ c.in-Some.list.now c.in-Some.ensures c.if-list-gt-MOST_STEPS.false) c.read_each_step.ensures.ok

pub returns-clause-err : goal.returns-clause-err
returns-clause-err c =
    err_along c.read_each_step.result _ _ (steps_of-list _ c.in-Some.list.now c.in-Some.ensures c.if-list-gt-MOST_STEPS.false) c.read_each_step.ensures.err
