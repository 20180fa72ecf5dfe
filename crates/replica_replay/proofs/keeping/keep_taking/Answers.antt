use Rattle.std.proofs.Common.{[], ◌∷◌, ◌++◌, get_or, ◌∙◌}
use Rattle.replica_replay.specs.declared.keeping.Replica.{Replica}
use Rattle.replica_replay.specs.Holding.{orders_of}
use Rattle.replica_replay.proofs.Spares.{leads_still}
use Rattle.replica_replay.proofs.keeping.keep_taking.Goals as goal

pub keep_spare-requires-clause-leads : goal.keep_spare-requires-clause-leads
keep_spare-requires-clause-leads g c =
    let rs = c.args.replicas.now.items in
    let new : Replica = record { order = get_or (orders_of rs) c.args.replica [] ++ c.args.event ∷ []; state = c.args.state } in
    leads_still (g.R.Runner.specification c.args.runner.now) (g.R.Runner.setting c.args.runner.now) rs c.deref.result.now c.args.replica new c.args.call.now c.in-Ok.before (c.deref.ensures.value ∙ c.in-Ok.ensures.ok) c.requires.replica
    c.in-Ok.ensures.before c.requires.leads
