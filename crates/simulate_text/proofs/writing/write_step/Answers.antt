use Rattle.simulate_text.specs.Course.{part_of}
use Rattle.simulate_text.specs.Reached.{simulated_in}
use Rattle.simulate_text.proofs.Carrying.{step_part}
use Rattle.simulate_text.proofs.writing.write_step.Goals as goal

pub returns-in-Ok : goal.returns-in-Ok
returns-in-Ok g c = λ w asked.
    let d = c.args.spec.now in
    step_part d w (part_of d w c.args.step.now (simulated_in c.args.sim.now)) c.args.number c.replica_of-replica.result c.args.step.now c.args.text.now.items c.push_lines.new.text.items
    c.clear.new.self.items c.as_slice.result.now c.in_ok-stop.stop c.carry_out.new.sim
    c.clear.ensures.items (c.in_ok-stop.ensures d w (record { of = asked.of; unbroken = asked.unbroken })) c.replica_of-replica.ensures c.as_slice.ensures.value c.in-Ok.ensures
