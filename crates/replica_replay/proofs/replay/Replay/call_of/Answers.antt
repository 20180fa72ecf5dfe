use Rattle.std.proofs.Common.{◌≡◌, ◌<◌, length, map, Some, refl, sym, subst}
use Rattle.std.specs.Prelude.{slice_get}
use Rattle.spec_core.specs.declared.world.Call.{Call}
use Rattle.executions.specs.Orders.{Event}
use Rattle.replica_replay.specs.Holding.{orders_of}
use Rattle.replica_replay.specs.Replayed.{Replayed}
use Rattle.replica_replay.proofs.Answering.{read_at, is_event, call_at}
use Rattle.replica_replay.proofs.replay.Replay.call_of.Goals as goal

pub returns : goal.returns
returns g c =
    let hs = c.self.inside.happened.items in let rs = c.self.inside.replicas.items in let at = c.index.result.now in let e = c.args.event in
    let lt = is_event (orders_of rs) hs e (subst (λ (p : Replayed). e < length p.held.events) (sym c.self.view_is) c.requires) in
    let here = read_at hs hs e at refl lt c.index.ensures in
    subst (λ (p : Replayed). slice_get (map (λ (x : Event Call). x.call) p.held.events) e ≡ Some at.call) c.self.view_is (call_at (orders_of rs) hs e at here)
