use Rattle.std.proofs.Common.{◌≡◌, [], ◌∷◌, ◌++◌, length, get_or, rules, sym, ◌∙◌, ap, subst}
use Rattle.spec_core.specs.declared.world.Call.{Call}
use Rattle.replica_replay.specs.declared.keeping.Happened.{Happened}
use Rattle.replica_replay.specs.declared.keeping.Replica.{Replica}
use Rattle.replica_replay.specs.Holding.{orders_of, Leads}
use Rattle.replica_replay.proofs.Spares.{last_is, leads_still}
use Rattle.replica_replay.proofs.keeping.keep_call.Goals as goal

pub keep_spare-requires-clause-leads : goal.keep_spare-requires-clause-leads
keep_spare-requires-clause-leads g c = λ r here.
    let d = g.R.Runner.specification c.args.runner.now in let w = g.R.Runner.setting c.args.runner.now in let rs = c.args.replicas.now.items in let hs = c.args.happened.now.items in
    let new : Replica = record { order = get_or (orders_of rs) c.args.replica [] ++ length hs ∷ []; state = c.args.state } in
    let len : c.len-event.result ≡ length hs = search rules in
    let last = last_is hs c.note_call.new.happened.items c.len-event.result c.index.result.now c.in-Ok.ensures.happened len c.index.ensures in
    subst (λ (k : Call). Leads d w k c.in-Ok.before r.state) (sym (ap (λ (h : Happened). h.call) last))
    (leads_still d w rs c.deref.result.now c.args.replica new c.args.call c.in-Ok.before (c.deref.ensures.value ∙ c.in-Ok.ensures.replicas) c.requires.replica c.in-Ok.ensures.before c.requires.leads r here)
