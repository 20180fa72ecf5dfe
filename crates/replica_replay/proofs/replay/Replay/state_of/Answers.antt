use Rattle.std.proofs.Common.{◌≡◌, ◌<◌, true, [], length, get_or, refl, sym, ◌∙◌, ap, subst}
use Rattle.spec_core.specs.State.{reads}
use Rattle.spec_core.specs.Fits.{is_state}
use Rattle.replica_replay.specs.Steps.{state_of}
use Rattle.replica_replay.specs.Holding.{held_by}
use Rattle.replica_replay.specs.Replayed.{Replayed}
use Rattle.replica_replay.proofs.Kept.{own_order}
use Rattle.replica_replay.proofs.Answering.{read_at, is_replica}
use Rattle.replica_replay.proofs.replay.Replay.state_of.Goals as goal

pub returns-clause-reads : goal.returns-clause-reads
returns-clause-reads g c =
    let hs = c.self.inside.happened.items in let rs = c.self.inside.replicas.items in let at = c.index.result.now in let r = c.args.replica in
    let lt = is_replica rs r (subst (λ (p : Replayed). r < length p.held.taken) (sym c.self.view_is) c.requires) in
    let here = read_at rs rs r at refl lt c.index.ensures in
    subst (λ (p : Replayed). reads at.state ≡ state_of p.spec p.world p.held (get_or p.held.taken r [])) c.self.view_is
    (c.self.invariant.kept.states r at here ∙ ap (state_of (g.R.Runner.specification c.self.inside.runner) (g.R.Runner.setting c.self.inside.runner) (held_by hs rs)) (sym (own_order rs r at here)))

pub returns-clause-fits : goal.returns-clause-fits
returns-clause-fits g c =
    let rs = c.self.inside.replicas.items in let at = c.index.result.now in let r = c.args.replica in
    let lt = is_replica rs r (subst (λ (p : Replayed). r < length p.held.taken) (sym c.self.view_is) c.requires) in
    let here = read_at rs rs r at refl lt c.index.ensures in
    subst (λ (p : Replayed). is_state p.spec p.world at.state ≡ true) c.self.view_is (c.self.invariant.kept.fit r at here)
