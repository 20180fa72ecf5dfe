use Rattle.std.proofs.Common.{◌<◌, length, arith}
use Rattle.token_core.specs.HeldNet.{replica_of, network_held}
use Rattle.simulate_text.proofs.Carrying.{at_number, replica_here}
use Rattle.simulate_text.proofs.Going.{replica_more}
use Rattle.simulate_text.proofs.writing.push_replicas.Goals as goal

pub loop-replica-preserved : goal.loop-replica-preserved
loop-replica-preserved g c =
    let net = c.args.net.now in let k = c.loop-replica.replica in
    let lt : k < length net.replicas = omega (arith, c.loop-replica-test.true, c.in_ok-count.ensures, c.replica_count.ensures) in
    let found = at_number net k lt in
    replica_more net.spec net.world (network_held net).replicas c.args.text.now.items c.loop-replica.text.items c.push_replica.new.text.items k (replica_of found.0)
    (replica_here net k found.0 found.1) c.loop-replica.invariant (c.in_ok-push_replica.ensures found.0 found.1)
