use Rattle.std.proofs.Common.{◌≡◌, ◌++◌, drop}
use Rattle.replay_text.specs.Text.{replica_texts}
use Rattle.replay_text.proofs.writing.push_replicas.Given as goal

abbrev pub invariant-loop-replica : goal.invariant-loop-replica
invariant-loop-replica g l =
    let p = l.replay in
    l.fn.text.items ++ replica_texts l.spec p.world p.held 0 p.held.taken
    ≡ l.text.items ++ replica_texts l.spec p.world p.held l.replica (drop l.replica p.held.taken)
