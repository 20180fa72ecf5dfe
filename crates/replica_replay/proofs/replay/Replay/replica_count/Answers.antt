use Rattle.std.proofs.Common.{List, length, sym, ◌∙◌, ap}
use Rattle.replica_replay.specs.declared.keeping.Replica.{Replica}
use Rattle.replica_replay.specs.Replayed.{Replayed}
use Rattle.replica_replay.proofs.Answering.{length_orders}
use Rattle.replica_replay.proofs.replay.Replay.replica_count.Goals as goal

pub returns : goal.returns
returns g c = c.count.ensures ∙ ap (λ (l : List Replica). length l) c.deref.ensures.value ∙ sym (length_orders c.self.inside.replicas.items) ∙ ap (λ (p : Replayed). length p.held.taken) c.self.view_is
