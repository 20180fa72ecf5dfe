use Rattle.sample_specs.specs.Sample.{adding, deleting}
use Rattle.sample_specs.proofs.Below.{pair_next}
use Rattle.sample_specs.proofs.operations.operations.Goals as goal

pub loop-i-preserved : goal.loop-i-preserved
loop-i-preserved c = pair_next adding (deleting c.args.n) c.loop-i.i c.loop-i.list c.push.new.self c.push-in-loop-i.new.self c.in_ok-adding.field-0 c.in_ok-deleting.field-0
    c.loop-i.invariant c.in_ok-adding.ensures c.in_ok-push.ensures.ok c.in_ok-deleting.ensures c.in_ok-push-2.ensures.ok
