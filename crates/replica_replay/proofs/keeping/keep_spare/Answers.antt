use Rattle.std.proofs.Common.{List, refl, sym, ◌∙◌, ap, subst}
use Rattle.std.specs.Prelude.{slice_get}
use Rattle.effectors.specs.Spare.{IsSpare}
use Rattle.replica_replay.specs.declared.keeping.Replica.{Replica}
use Rattle.replica_replay.proofs.Answering.{read_at}
use Rattle.replica_replay.proofs.Taking.{at_set}
use Rattle.replica_replay.proofs.Spares.{spare_put}
use Rattle.replica_replay.proofs.keeping.keep_spare.Goals as goal

pub returns : goal.returns
returns g c = λ rs x same is.
    let d = g.R.Runner.specification c.args.runner.now in let w = g.R.Runner.setting c.args.runner.now in let now = c.args.replicas.now in let i = c.args.replica in let at = c.index-replicas-replica.result in
    let here = read_at now now i at refl c.requires.replica c.index-replicas-replica.is in
    let is_at = at_set rs i x at (ap (λ (l : List Replica). slice_get l i) (sym same) ∙ here) in
    let new = subst (λ (z : Replica). IsSpare d w z.state c.spare-spare.result) (sym (is_at ∙ c.index-replicas-replica.is)) c.spare-spare.ensures in
    spare_put d w rs now c.args.spares.now.items c.put_spare.new.spares.items i x c.spare-spare.result same c.put_spare.ensures new is
