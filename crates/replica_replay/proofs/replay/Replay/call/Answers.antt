use Rattle.std.proofs.Common.{◌≡◌, ◌⊎◌, sym, ◌∙◌, ap, subst}
use Rattle.std.specs.Prelude.{Option}
use Rattle.spec_core.specs.Specification.{Specification}
use Rattle.spec_core.specs.State.{Listing}
use Rattle.effectors.specs.Spare.{IsSpare}
use Rattle.replica_replay.specs.declared.step.StepRefused.TheVariants.{Memory}
use Rattle.replica_replay.specs.Held.{Held}
use Rattle.replica_replay.specs.Replayed.{Replayed}
use Rattle.replica_replay.specs.Steps.{operation_named, replica_in, called, held_after, answer}
use Rattle.replica_replay.proofs.Answering.{failed, ok_then, found_at, call_asked_refuses, call_effect_refuses, call_passes, call_leaves, call_answers, call_holds}
use Rattle.replica_replay.proofs.Spares.{spare_taken, leads_from}
use Rattle.replica_replay.proofs.replay.Replay.call.Goals as goal

pub returns-in-Err-clause-answer : goal.returns-in-Err-clause-answer
returns-in-Err-clause-answer g c =
    let d = g.R.Runner.specification c.self.inside.runner in let w = g.R.Runner.setting c.self.inside.runner in let hs = c.self.inside.happened.items in let rs = c.self.inside.replicas.items in
    let r = c.args.replica in let at = c.in-Some.at.now in let look = c.in-Some.ensures.lookup in
    let here = found_at c.deref.result.now rs r at c.deref.ensures.value look.0 look.1 in
    let name = c.args.name.now in let op = c.in-Some-operation_named.op in let named = c.in-Some-operation_named.ensures ∙ ap (λ (s : Specification). operation_named s name) c.spec.ensures in
    let xs = c.in_ok-args.args in let args = c.args.args.now in let same = c.in_ok-args.ensures in
    subst (λ (p : Replayed). (failed c.in-Err.why ≡ failed Memory) ⊎ (failed c.in-Err.why ≡ answer (called p.spec p.world name args (replica_in p.held r)))) c.self.view_is
    (call_asked_refuses d w hs rs c.self.invariant.kept r at here name op named xs args same c.deref-2.result.now c.deref-2.ensures.value c.in-Err.why c.in-Err.ensures.err)

pub state_after_call-requires-clause-spare : goal.state_after_call-requires-clause-spare
state_after_call-requires-clause-spare g c =
    let d = g.R.Runner.specification c.self.inside.runner in let w = g.R.Runner.setting c.self.inside.runner in let rs = c.self.inside.replicas.items in
    let r = c.args.replica in let at = c.in-Some.at.now in let look = c.in-Some.ensures.lookup in
    subst (λ (o : Option Listing). IsSpare d w at.state o) (sym c.take_spare-spare.ensures.spare)
    (c.self.invariant.spares r at (found_at c.deref.result.now rs r at c.deref.ensures.value look.0 look.1))

pub returns-clause-answer : goal.returns-clause-answer
returns-clause-answer g c =
    let d = g.R.Runner.specification c.self.inside.runner in let w = g.R.Runner.setting c.self.inside.runner in let hs = c.self.inside.happened.items in let rs = c.self.inside.replicas.items in
    let r = c.args.replica in let at = c.in-Some.at.now in let look = c.in-Some.ensures.lookup in
    let here = found_at c.deref.result.now rs r at c.deref.ensures.value look.0 look.1 in
    let name = c.args.name.now in let op = c.in-Some-operation_named.op in let named = c.in-Some-operation_named.ensures ∙ ap (λ (s : Specification). operation_named s name) c.spec.ensures in
    let xs = c.in_ok-args.args in let args = c.args.args.now in let same = c.in_ok-args.ensures in
    subst (λ (p : Replayed). (failed c.in-Err-state_after_call.why ≡ failed Memory) ⊎ (failed c.in-Err-state_after_call.why ≡ answer (called p.spec p.world name args (replica_in p.held r)))) c.self.view_is
    (call_effect_refuses d w hs rs c.self.invariant.kept r at here name op named xs args same c.deref-2.result.now c.deref-2.ensures.value c.in-Err-state_after_call.why c.in-Ok.ensures.ok c.in-Err-state_after_call.ensures.err)

pub invariant_of-self : goal.invariant_of-self
invariant_of-self g c =
    let d = g.R.Runner.specification c.self.inside.runner in let w = g.R.Runner.setting c.self.inside.runner in let hs = c.self.inside.happened.items in let rs = c.self.inside.replicas.items in
    let r = c.args.replica in let at = c.in-Some.at.now in let look = c.in-Some.ensures.lookup in
    let here = found_at c.deref.result.now rs r at c.deref.ensures.value look.0 look.1 in
    let name = c.args.name.now in let op = c.in-Some-operation_named.op in let named = c.in-Some-operation_named.ensures ∙ ap (λ (s : Specification). operation_named s name) c.spec.ensures in
    let xs = c.in_ok-args.args in let args = c.args.args.now in let same = c.in_ok-args.ensures in
    let may = call_passes d w hs rs c.self.invariant.kept r at here name op named xs args same c.deref-2.result.now c.deref-2.ensures.value c.in-Ok.ensures.ok c.in-Ok-state_after_call.ensures.ok in
    record {
      kept = call_leaves d w hs rs c.self.invariant.kept r at here name op named xs args same c.keep_call.result c.in-Ok-state_after_call.state c.keep_call.new.happened.items c.keep_call.new.replicas.items may
          c.keep_call.ensures.few c.keep_call.ensures.happened c.keep_call.ensures.replicas c.keep_call.ensures.err c.in-Ok-state_after_call.ensures.fits c.in-Ok-state_after_call.ensures.reads;
      spares = c.keep_call.ensures.spares (spare_taken d w rs c.self.inside.spares.items c.take_spare-spare.new.spares.items r c.take_spare-spare.ensures.left c.self.invariant.spares);
    }

pub keep_call-requires-clause-leads : goal.keep_call-requires-clause-leads
keep_call-requires-clause-leads g c =
    let d = g.R.Runner.specification c.self.inside.runner in let w = g.R.Runner.setting c.self.inside.runner in let rs = c.self.inside.replicas.items in
    let r = c.args.replica in let at = c.in-Some.at.now in let look = c.in-Some.ensures.lookup in
    let here = found_at c.deref.result.now rs r at c.deref.ensures.value look.0 look.1 in
    leads_from d w rs r at (record { op = c.in-Some-operation_named.op; args = c.in_ok-args.args }) c.in-Ok-state_after_call.state here (c.self.invariant.kept.fit r at here) c.in-Ok-state_after_call.ensures.reads

pub invariant_of-self-in-Err-state_after_call : goal.invariant_of-self-in-Err-state_after_call
invariant_of-self-in-Err-state_after_call g c = record {
  kept = c.self.invariant.kept;
  spares = spare_taken (g.R.Runner.specification c.self.inside.runner) (g.R.Runner.setting c.self.inside.runner) c.self.inside.replicas.items c.self.inside.spares.items c.take_spare-spare.new.spares.items c.args.replica c.take_spare-spare.ensures.left c.self.invariant.spares;
}

pub returns-in-Ok-state_after_call-clause-answer : goal.returns-in-Ok-state_after_call-clause-answer
returns-in-Ok-state_after_call-clause-answer g c =
    let d = g.R.Runner.specification c.self.inside.runner in let w = g.R.Runner.setting c.self.inside.runner in let hs = c.self.inside.happened.items in let rs = c.self.inside.replicas.items in
    let r = c.args.replica in let at = c.in-Some.at.now in let look = c.in-Some.ensures.lookup in
    let here = found_at c.deref.result.now rs r at c.deref.ensures.value look.0 look.1 in
    let name = c.args.name.now in let op = c.in-Some-operation_named.op in let named = c.in-Some-operation_named.ensures ∙ ap (λ (s : Specification). operation_named s name) c.spec.ensures in
    let xs = c.in_ok-args.args in let args = c.args.args.now in let same = c.in_ok-args.ensures in
    let may = call_passes d w hs rs c.self.invariant.kept r at here name op named xs args same c.deref-2.result.now c.deref-2.ensures.value c.in-Ok.ensures.ok c.in-Ok-state_after_call.ensures.ok in
    subst (λ (p : Replayed). (c.keep_call.result ≡ failed Memory) ⊎ (c.keep_call.result ≡ answer (called p.spec p.world name args (replica_in p.held r)))) c.self.view_is
    (call_answers d w hs rs c.self.invariant.kept r at here name op named xs args same c.keep_call.result may c.keep_call.ensures.taken c.keep_call.ensures.memory)

pub returns-in-Ok-state_after_call-clause-ok : goal.returns-in-Ok-state_after_call-clause-ok
returns-in-Ok-state_after_call-clause-ok g c =
    let d = g.R.Runner.specification c.self.inside.runner in let w = g.R.Runner.setting c.self.inside.runner in let hs = c.self.inside.happened.items in let rs = c.self.inside.replicas.items in
    let r = c.args.replica in let at = c.in-Some.at.now in let look = c.in-Some.ensures.lookup in
    let here = found_at c.deref.result.now rs r at c.deref.ensures.value look.0 look.1 in
    let name = c.args.name.now in let op = c.in-Some-operation_named.op in let named = c.in-Some-operation_named.ensures ∙ ap (λ (s : Specification). operation_named s name) c.spec.ensures in
    let xs = c.in_ok-args.args in let args = c.args.args.now in let same = c.in_ok-args.ensures in
    let may = call_passes d w hs rs c.self.invariant.kept r at here name op named xs args same c.deref-2.result.now c.deref-2.ensures.value c.in-Ok.ensures.ok c.in-Ok-state_after_call.ensures.ok in
    ok_then c.keep_call.result
    (λ h. ap (λ (x : Held). let p : Replayed = record { spec = d; world = w; held = x } in p) h
    ∙ ap (λ (p : Replayed). let q : Replayed = record { spec = p.spec; world = p.world; held = held_after p.held (called p.spec p.world name args (replica_in p.held r)) } in q) c.self.view_is)
    (call_holds d w hs rs c.self.invariant.kept r at here name op named xs args same c.keep_call.result c.in-Ok-state_after_call.state c.keep_call.new.happened.items c.keep_call.new.replicas.items may c.keep_call.ensures.happened c.keep_call.ensures.replicas)
