use Rattle.std.proofs.Common.{◌≡◌, ◌⊎◌, inr, List, ◌∙◌, ap, subst}
use Rattle.replica_replay.specs.declared.step.StepRefused.TheVariants.{Memory}
use Rattle.replica_replay.specs.declared.keeping.Replica.{Replica}
use Rattle.replica_replay.specs.Held.{Held}
use Rattle.replica_replay.specs.Replayed.{Replayed}
use Rattle.replica_replay.specs.Steps.{replica_in, took, held_after, answer}
use Rattle.replica_replay.specs.Holding.{orders_of, seen_by_event}
use Rattle.replica_replay.proofs.Answering.{failed, ok_then, found_at, event_fits, take_asked_refuses, take_effect_refuses, take_passes, take_leaves, take_answers, take_holds}
use Rattle.replica_replay.proofs.Spares.{spare_taken, leads_from}
use Rattle.replica_replay.proofs.replay.Replay.take.Goals as goal

pub returns-in-Some-taking_asked-clause-answer : goal.returns-in-Some-taking_asked-clause-answer
returns-in-Some-taking_asked-clause-answer g c =
    let d = g.R.Runner.specification c.self.inside.runner in let w = g.R.Runner.setting c.self.inside.runner in let hs = c.self.inside.happened.items in let rs = c.self.inside.replicas.items in
    let r = c.args.replica in let at = c.in-Some.at.now in let look = c.in-Some.ensures.lookup in
    let here = found_at c.deref.result.now rs r at c.deref.ensures.value look.0 look.1 in
    let e = c.args.event in let found = c.in-Some-get.found.now in let look_event = c.in-Some-get.ensures.lookup in
    let there = found_at c.deref-2.result.now hs e found c.deref-2.ensures.value look_event.0 look_event.1 in
    let seen = c.seen_by_event-seen.result.now in let saw = c.seen_by_event-seen.ensures ∙ ap (λ (l : List Replica). seen_by_event (orders_of l) found) c.deref-3.ensures.value in
    inr (subst (λ (p : Replayed). failed c.in-Some-taking_asked.why ≡ answer (took p.spec p.world e (replica_in p.held r))) c.self.view_is
    (take_asked_refuses d w hs rs c.self.invariant.kept r at here e found there seen saw c.in-Some-taking_asked.why c.in-Some-taking_asked.ensures))

pub state_after_call-requires-clause-state : goal.state_after_call-requires-clause-state
state_after_call-requires-clause-state g c =
    let rs = c.self.inside.replicas.items in
    let r = c.args.replica in let at = c.in-Some.at.now in let look = c.in-Some.ensures.lookup in
    c.self.invariant.kept.fit r at (found_at c.deref.result.now rs r at c.deref.ensures.value look.0 look.1)

pub state_after_call-requires-clause-call : goal.state_after_call-requires-clause-call
state_after_call-requires-clause-call g c =
    let d = g.R.Runner.specification c.self.inside.runner in let w = g.R.Runner.setting c.self.inside.runner in let hs = c.self.inside.happened.items in let rs = c.self.inside.replicas.items in
    let e = c.args.event in let found = c.in-Some-get.found.now in let look_event = c.in-Some-get.ensures.lookup in
    let there = found_at c.deref-2.result.now hs e found c.deref-2.ensures.value look_event.0 look_event.1 in
    event_fits d w hs rs c.self.invariant.kept e found there

pub returns-in-Err-clause-answer : goal.returns-in-Err-clause-answer
returns-in-Err-clause-answer g c =
    let d = g.R.Runner.specification c.self.inside.runner in let w = g.R.Runner.setting c.self.inside.runner in let hs = c.self.inside.happened.items in let rs = c.self.inside.replicas.items in
    let r = c.args.replica in let at = c.in-Some.at.now in let look = c.in-Some.ensures.lookup in
    let here = found_at c.deref.result.now rs r at c.deref.ensures.value look.0 look.1 in
    let e = c.args.event in let found = c.in-Some-get.found.now in let look_event = c.in-Some-get.ensures.lookup in
    let there = found_at c.deref-2.result.now hs e found c.deref-2.ensures.value look_event.0 look_event.1 in
    let seen = c.seen_by_event-seen.result.now in let saw = c.seen_by_event-seen.ensures ∙ ap (λ (l : List Replica). seen_by_event (orders_of l) found) c.deref-3.ensures.value in
    subst (λ (p : Replayed). (failed c.in-Err.why ≡ failed Memory) ⊎ (failed c.in-Err.why ≡ answer (took p.spec p.world e (replica_in p.held r)))) c.self.view_is
    (take_effect_refuses d w hs rs c.self.invariant.kept r at here e found there seen saw c.in-Err.why c.in-None.ensures c.in-Err.ensures.err)

pub invariant_of-self : goal.invariant_of-self
invariant_of-self g c =
    let d = g.R.Runner.specification c.self.inside.runner in let w = g.R.Runner.setting c.self.inside.runner in let hs = c.self.inside.happened.items in let rs = c.self.inside.replicas.items in
    let r = c.args.replica in let at = c.in-Some.at.now in let look = c.in-Some.ensures.lookup in
    let here = found_at c.deref.result.now rs r at c.deref.ensures.value look.0 look.1 in
    let e = c.args.event in let found = c.in-Some-get.found.now in let look_event = c.in-Some-get.ensures.lookup in
    let there = found_at c.deref-2.result.now hs e found c.deref-2.ensures.value look_event.0 look_event.1 in
    let seen = c.seen_by_event-seen.result.now in let saw = c.seen_by_event-seen.ensures ∙ ap (λ (l : List Replica). seen_by_event (orders_of l) found) c.deref-3.ensures.value in
    let may = take_passes d w hs rs c.self.invariant.kept r at here e found there seen saw c.in-None.ensures c.in-Ok.ensures.ok in
    record {
      kept = take_leaves d w hs rs c.self.invariant.kept r at here e found there c.keep_taking.result c.in-Ok.state c.keep_taking.new.replicas.items may
          c.keep_taking.ensures.ok c.keep_taking.ensures.err c.in-Ok.ensures.fits c.in-Ok.ensures.reads;
      spares = c.keep_taking.ensures.spares (spare_taken d w rs c.self.inside.spares.items c.take_spare-spare.new.spares.items r c.take_spare-spare.ensures.left c.self.invariant.spares);
    }

pub keep_taking-requires-clause-call : goal.keep_taking-requires-clause-call
keep_taking-requires-clause-call g c =
    let d = g.R.Runner.specification c.self.inside.runner in let w = g.R.Runner.setting c.self.inside.runner in let hs = c.self.inside.happened.items in let rs = c.self.inside.replicas.items in
    let e = c.args.event in let found = c.in-Some-get.found.now in let look_event = c.in-Some-get.ensures.lookup in
    event_fits d w hs rs c.self.invariant.kept e found (found_at c.deref-2.result.now hs e found c.deref-2.ensures.value look_event.0 look_event.1)

pub keep_taking-requires-clause-leads : goal.keep_taking-requires-clause-leads
keep_taking-requires-clause-leads g c =
    let d = g.R.Runner.specification c.self.inside.runner in let w = g.R.Runner.setting c.self.inside.runner in let rs = c.self.inside.replicas.items in
    let r = c.args.replica in let at = c.in-Some.at.now in let look = c.in-Some.ensures.lookup in
    let here = found_at c.deref.result.now rs r at c.deref.ensures.value look.0 look.1 in
    leads_from d w rs r at c.in-Some-get.found.now.call c.in-Ok.state here (c.self.invariant.kept.fit r at here) c.in-Ok.ensures.reads

pub returns-in-Ok-clause-answer : goal.returns-in-Ok-clause-answer
returns-in-Ok-clause-answer g c =
    let d = g.R.Runner.specification c.self.inside.runner in let w = g.R.Runner.setting c.self.inside.runner in let hs = c.self.inside.happened.items in let rs = c.self.inside.replicas.items in
    let r = c.args.replica in let at = c.in-Some.at.now in let look = c.in-Some.ensures.lookup in
    let here = found_at c.deref.result.now rs r at c.deref.ensures.value look.0 look.1 in
    let e = c.args.event in let found = c.in-Some-get.found.now in let look_event = c.in-Some-get.ensures.lookup in
    let there = found_at c.deref-2.result.now hs e found c.deref-2.ensures.value look_event.0 look_event.1 in
    let seen = c.seen_by_event-seen.result.now in let saw = c.seen_by_event-seen.ensures ∙ ap (λ (l : List Replica). seen_by_event (orders_of l) found) c.deref-3.ensures.value in
    let may = take_passes d w hs rs c.self.invariant.kept r at here e found there seen saw c.in-None.ensures c.in-Ok.ensures.ok in
    subst (λ (p : Replayed). (c.keep_taking.result ≡ failed Memory) ⊎ (c.keep_taking.result ≡ answer (took p.spec p.world e (replica_in p.held r)))) c.self.view_is
    (take_answers d w hs rs c.self.invariant.kept r at here e found there c.keep_taking.result may c.keep_taking.ensures.taken c.keep_taking.ensures.memory)

pub returns-in-Ok-clause-ok : goal.returns-in-Ok-clause-ok
returns-in-Ok-clause-ok g c =
    let d = g.R.Runner.specification c.self.inside.runner in let w = g.R.Runner.setting c.self.inside.runner in let hs = c.self.inside.happened.items in let rs = c.self.inside.replicas.items in
    let r = c.args.replica in let at = c.in-Some.at.now in let look = c.in-Some.ensures.lookup in
    let here = found_at c.deref.result.now rs r at c.deref.ensures.value look.0 look.1 in
    let e = c.args.event in let found = c.in-Some-get.found.now in let look_event = c.in-Some-get.ensures.lookup in
    let there = found_at c.deref-2.result.now hs e found c.deref-2.ensures.value look_event.0 look_event.1 in
    let seen = c.seen_by_event-seen.result.now in let saw = c.seen_by_event-seen.ensures ∙ ap (λ (l : List Replica). seen_by_event (orders_of l) found) c.deref-3.ensures.value in
    let may = take_passes d w hs rs c.self.invariant.kept r at here e found there seen saw c.in-None.ensures c.in-Ok.ensures.ok in
    ok_then c.keep_taking.result
    (λ h. ap (λ (x : Held). let p : Replayed = record { spec = d; world = w; held = x } in p) h
    ∙ ap (λ (p : Replayed). let q : Replayed = record { spec = p.spec; world = p.world; held = held_after p.held (took p.spec p.world e (replica_in p.held r)) } in q) c.self.view_is)
    (take_holds d w hs rs c.self.invariant.kept r at here e found there c.keep_taking.result c.in-Ok.state c.keep_taking.new.replicas.items may c.keep_taking.ensures.ok)
