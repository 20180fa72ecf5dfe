use Rattle.std.proofs.Common.{sym, subst}
use Rattle.replica_replay.specs.Holding.{AreSpares}
use Rattle.replica_replay.proofs.Spares.{none_spare}
use Rattle.replica_replay.proofs.Answering.{first_is_kept}
use Rattle.replica_replay.proofs.replay.Replay.new.Goals as goal

pub invariant_of-result : goal.invariant_of-result
invariant_of-result g c =
    let d = g.R.Runner.specification c.args.runner in let w = g.R.Runner.setting c.args.runner in
    record {
      kept = first_is_kept d w c.args.replicas c.new-happened.result.items c.in_ok-replicas.replicas.items c.in_ok-replicas.ensures.world c.new-happened.ensures.items c.in_ok-replicas.ensures.orders c.in_ok-replicas.ensures.states;
      spares = subst (AreSpares d w c.in_ok-replicas.replicas.items) (sym c.in_ok-spares.ensures) (none_spare d w c.in_ok-replicas.replicas.items c.args.replicas);
    }
