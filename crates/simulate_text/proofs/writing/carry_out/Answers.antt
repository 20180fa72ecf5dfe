use Rattle.std.proofs.Common.{refl}
use Rattle.std.specs.Prelude.{slice_get}
use Rattle.replica_replay.specs.Steps.{operation_named}
use Rattle.simulate_text.specs.Course.{calls, takes, part_of}
use Rattle.simulate_text.specs.Reached.{simulated_in}
use Rattle.simulate_text.proofs.Carrying.{does_from, replica_below, call_part, take_part}
use Rattle.simulate_text.proofs.writing.carry_out.Goals as goal

pub returns-in-Call : goal.returns-in-Call
returns-in-Call g c =
    let old = c.args.sim.now in let s = c.args.step.now in let name = c.bytes.result.now in let args = c.as_slice.result.now in
    does_from c.call_named.result (λ d w. calls d w c.in-Call.replica args (operation_named d name)) (λ d w. part_of d w s) old old c.call_named.new.sim refl
    (λ d w asked. (
      asked,
      call_part d w (simulated_in old) s c.in-Call.replica c.in-Call.op name c.in-Call.args args c.in-Call.is
          (replica_below old.net s c.replica_of.result c.replica_count.result c.replica_of.ensures c.replica_count.ensures c.if-replica_of-replica_count.false)
          c.bytes.ensures.value c.as_slice.ensures,
    ))
    c.call_named.ensures

pub returns-in-Take : goal.returns-in-Take
returns-in-Take g c =
    let old = c.args.sim.now in let s = c.args.step.now in let e = c.in-Take.event in
    does_from c.take_numbered.result (λ d w x. takes d w c.in-Take.replica e (slice_get x.dones e) x) (λ d w. part_of d w s) old old c.take_numbered.new.sim refl
    (λ d w asked. (
      asked,
      take_part d w (simulated_in old) s c.in-Take.replica e c.in-Take.is
          (replica_below old.net s c.replica_of.result c.replica_count.result c.replica_of.ensures c.replica_count.ensures c.if-replica_of-replica_count.false),
    ))
    c.take_numbered.ensures
