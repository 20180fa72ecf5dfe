use Rattle.std.proofs.Common.{◌≡◌, ◌++◌, drop}
use Rattle.token_core.specs.HeldNet.{network_held}
use Rattle.simulate_text.specs.Text.{replica_texts}
use Rattle.simulate_text.proofs.writing.push_replicas.Given as goal

abbrev pub invariant-loop-replica : goal.invariant-loop-replica
invariant-loop-replica g l =
    l.fn.text.items ++ replica_texts l.net.spec l.net.world 0 (network_held l.net).replicas
    ≡ l.text.items ++ replica_texts l.net.spec l.net.world l.replica (drop l.replica (network_held l.net).replicas)
