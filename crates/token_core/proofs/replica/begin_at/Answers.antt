use Rattle.std.proofs.Common.{inr, List, ℕ, ◌∙◌, ap}
use Rattle.token_protocol.specs.declared.node.NodeRefused.TheVariants as refusal
use Rattle.token_protocol.specs.Node.{begin, begin_answer, node_after_begin}
use Rattle.token_protocol.specs.Network.{begin_at}
use Rattle.token_core.specs.Log.{Lists, lists_of}
use Rattle.token_core.specs.Held.{node_of}
use Rattle.token_core.specs.Left.{Left, event_of, after_begun}
use Rattle.token_core.specs.Fields.{network_with}
use Rattle.token_core.proofs.Leaving.{replica, begin_left, told_so, next_network}
use Rattle.token_core.proofs.replica.begin_at.Goals as goal

pub returns-in-Ok-clause-answer : goal.returns-in-Ok-clause-answer
returns-in-Ok-clause-answer g c = λ replicas granted r.
    let d = g.R.Runner.specification c.args.runner.now in
    let w = g.R.Runner.setting c.args.runner.now in
    let n = node_of c.args.at.now.node in let taken = c.args.at.now.taken.items in let lists = lists_of c.args.log.now in
    let left : Left = record { did = c.keep_begun.result; lists = lists_of c.keep_begun.new.log; taken = c.keep_begun.new.taken.items } in
    let is = c.in_ok-event.ensures ∙ ap (event_of c.args.call.now) (c.as_slice.ensures.value ∙ c.make_room-2.ensures.same) in
    let after = c.keep_begun.ensures
    ∙ ap (λ (l : Lists). after_begun l c.make_room-2.new.list.items c.in_ok-event.event c.in-Ok.begun) c.make_room.ensures.same
    ∙ ap (λ (t : List ℕ). after_begun lists t c.in_ok-event.event c.in-Ok.begun) c.make_room-2.ensures.same in
    let told = told_so c.in-Ok.begun refusal.Memory (begin_answer (begin d w n c.args.call.now)) c.in-Ok.ensures.begun.answer in
    inr (begin_left d w replicas granted lists r n taken c.args.call.now c.in-Ok.begun c.in_ok-event.event left is after told).did

pub returns-in-Ok-clause-ok : goal.returns-in-Ok-clause-ok
returns-in-Ok-clause-ok g c = λ replicas granted r here.
    let d = g.R.Runner.specification c.args.runner.now in
    let w = g.R.Runner.setting c.args.runner.now in
    let n = node_of c.args.at.now.node in let taken = c.args.at.now.taken.items in let lists = lists_of c.args.log.now in
    let left : Left = record { did = c.keep_begun.result; lists = lists_of c.keep_begun.new.log; taken = c.keep_begun.new.taken.items } in
    let is = c.in_ok-event.ensures ∙ ap (event_of c.args.call.now) (c.as_slice.ensures.value ∙ c.make_room-2.ensures.same) in
    let after = c.keep_begun.ensures
    ∙ ap (λ (l : Lists). after_begun l c.make_room-2.new.list.items c.in_ok-event.event c.in-Ok.begun) c.make_room.ensures.same
    ∙ ap (λ (t : List ℕ). after_begun lists t c.in_ok-event.event c.in-Ok.begun) c.make_room-2.ensures.same in
    let told = told_so c.in-Ok.begun refusal.Memory (begin_answer (begin d w n c.args.call.now)) c.in-Ok.ensures.begun.answer in
    next_network d w replicas granted lists r n taken left (node_of c.begin_over.new.self) (node_after_begin n (begin d w n c.args.call.now)) (begin_at (network_with replicas granted lists) r (replica n taken) (begin d w n c.args.call.now))
    (begin_left d w replicas granted lists r n taken c.args.call.now c.in-Ok.begun c.in_ok-event.event left is after told) c.in-Ok.ensures.begun.ok
