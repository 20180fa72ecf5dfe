use Rattle.simulate_text.specs.Course.{course_from}
use Rattle.simulate_text.specs.Reached.{simulated_in}
use Rattle.simulate_text.proofs.Going.{ends_here, leads_on, done_here}
use Rattle.simulate_text.proofs.writing.write_steps.Goals as goal

pub returns-in-Some : goal.returns-in-Some
returns-in-Some g c = λ w asked.
    let d = c.args.spec.now in
    let is = c.loop-number.invariant w asked in
    let whole = course_from d w 0 c.args.steps.now (simulated_in c.args.sim.now) in
    ends_here d w whole c.args.text.now.items c.loop-number.text.items c.write_step.new.text.items c.loop-number.number c.args.steps.now c.loop-number.sim c.write_step.new.sim
    c.index-steps-number.result c.loop-number-test.true c.index-steps-number.is is c.in_ok-stop.field-0 (c.in_ok-stop.ensures w is.asked) c.in-Some.stop c.in-Some.is

pub loop-number-preserved : goal.loop-number-preserved
loop-number-preserved g c = λ w asked.
    let d = c.args.spec.now in
    let is = c.loop-number.invariant w asked in
    let whole = course_from d w 0 c.args.steps.now (simulated_in c.args.sim.now) in
    leads_on d w whole c.args.text.now.items c.loop-number.text.items c.write_step.new.text.items c.loop-number.number c.args.steps.now c.loop-number.sim c.write_step.new.sim
    c.index-steps-number.result c.loop-number-test.true c.index-steps-number.is is c.in_ok-stop.field-0 (c.in_ok-stop.ensures w is.asked) c.in-None.is

pub returns : goal.returns
returns g c = λ w asked.
    let d = c.args.spec.now in
    let is = c.loop-number.invariant w asked in
    let whole = course_from d w 0 c.args.steps.now (simulated_in c.args.sim.now) in
    done_here d w whole c.args.text.now.items c.loop-number.text.items c.loop-number.number c.args.steps.now c.loop-number.sim c.loop-number-test.false c.loop-number.auto.number-end is
