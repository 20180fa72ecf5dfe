use Rattle.std.proofs.Common.{◌≡◌, ◌<◌, length, arith, inr, List, ℕ, sym, ◌∙◌, ap, subst}
use Rattle.std.specs.Prelude.{Some, [], slice_get}
use Rattle.token_protocol.specs.declared.message.EventId.{EventId}
use Rattle.token_protocol.specs.declared.node.NodeRefused.TheVariants as refusal
use Rattle.token_protocol.specs.Node.{hear, hear_answer, node_after_hear}
use Rattle.token_protocol.specs.Network.{hear_at, hears_message, answer, network_after}
use Rattle.token_core.specs.Log.{Lists, lists_of}
use Rattle.token_core.specs.Held.{node_of}
use Rattle.token_core.specs.Left.{Left, event_for, id_of, IsAfterHeard}
use Rattle.token_core.specs.Fields.{network_with}
use Rattle.token_core.proofs.Fitting.{read_at}
use Rattle.token_core.proofs.Leaving.{replica, hear_left, is_prepared, told_so, next_network}
use Rattle.token_core.proofs.replica.hear_at.Goals as goal

pub hear_over-requires-clause-message : goal.hear_over-requires-clause-message
hear_over-requires-clause-message g c =
    let d = g.R.Runner.specification c.args.runner.now in
    let w = g.R.Runner.setting c.args.runner.now in
    let n = node_of c.args.at.now.node in let taken = c.args.at.now.taken.items in let lists = lists_of c.args.log.now in
    let m = c.index-sent.result.now in
    let same_length = ap (λ (l : Lists). length l.messages) c.make_room.ensures.same in
    let lt : c.args.message < length c.make_room.new.self.messages.items = omega (arith, c.if-message-len.false, c.len.ensures, c.args.log.now.messages.ok.0, same_length) in
    let sent = subst (λ (l : Lists). slice_get l.messages c.args.message ≡ Some m) c.make_room.ensures.same (read_at c.make_room.new.self.messages.items c.args.message m lt c.index-sent.ensures) in
    c.requires.message m sent

pub keep_heard-requires-clause-prepared : goal.keep_heard-requires-clause-prepared
keep_heard-requires-clause-prepared g c =
    let d = g.R.Runner.specification c.args.runner.now in
    let w = g.R.Runner.setting c.args.runner.now in
    let n = node_of c.args.at.now.node in let taken = c.args.at.now.taken.items in let lists = lists_of c.args.log.now in
    let m = c.index-sent.result.now in
    let same_length = ap (λ (l : Lists). length l.messages) c.make_room.ensures.same in
    let lt : c.args.message < length c.make_room.new.self.messages.items = omega (arith, c.if-message-len.false, c.len.ensures, c.args.log.now.messages.ok.0, same_length) in
    let sent = subst (λ (l : Lists). slice_get l.messages c.args.message ≡ Some m) c.make_room.ensures.same (read_at c.make_room.new.self.messages.items c.args.message m lt c.index-sent.ensures) in
    let is = c.in_ok-event.ensures ∙ ap (λ (t : List ℕ). event_for t n.waiting m) (c.as_slice.ensures.value ∙ c.make_room-2.ensures.same) in
    let told = told_so c.in-Ok.heard refusal.Memory (hear_answer (hear d w n m)) c.in-Ok.ensures.heard.answer in
    is_prepared d w [] [] lists 0 n taken m c.in-Ok.heard c.in_ok-event.event is told

pub returns-in-Ok-clause-answer : goal.returns-in-Ok-clause-answer
returns-in-Ok-clause-answer g c = λ replicas granted r here.
    let d = g.R.Runner.specification c.args.runner.now in
    let w = g.R.Runner.setting c.args.runner.now in
    let n = node_of c.args.at.now.node in let taken = c.args.at.now.taken.items in let lists = lists_of c.args.log.now in
    let m = c.index-sent.result.now in
    let same_length = ap (λ (l : Lists). length l.messages) c.make_room.ensures.same in
    let lt : c.args.message < length c.make_room.new.self.messages.items = omega (arith, c.if-message-len.false, c.len.ensures, c.args.log.now.messages.ok.0, same_length) in
    let sent = subst (λ (l : Lists). slice_get l.messages c.args.message ≡ Some m) c.make_room.ensures.same (read_at c.make_room.new.self.messages.items c.args.message m lt c.index-sent.ensures) in
    let left : Left = record { did = c.keep_heard.result; lists = lists_of c.keep_heard.new.log; taken = c.keep_heard.new.taken.items } in
    let is = c.in_ok-event.ensures ∙ ap (λ (t : List ℕ). event_for t n.waiting m) (c.as_slice.ensures.value ∙ c.make_room-2.ensures.same) in
    let after =
    subst (λ (t : List ℕ). IsAfterHeard lists t (id_of m) c.in_ok-event.event c.in-Ok.heard left) c.make_room-2.ensures.same
    (subst (λ (l : Lists). IsAfterHeard l c.make_room-2.new.list.items (id_of m) c.in_ok-event.event c.in-Ok.heard left) c.make_room.ensures.same
    (subst (λ (i : EventId). IsAfterHeard (lists_of c.make_room.new.self) c.make_room-2.new.list.items i c.in_ok-event.event c.in-Ok.heard left) c.id_of-id.ensures c.keep_heard.ensures)) in
    let told = told_so c.in-Ok.heard refusal.Memory (hear_answer (hear d w n m)) c.in-Ok.ensures.heard.answer in
    let known = hear_left d w replicas granted lists r n taken m c.in-Ok.heard c.in_ok-event.event is left here after told in
    inr (known.did ∙ ap (λ o. answer (hears_message d w (network_with replicas granted lists) r (replica n taken) o)) (sym sent))

pub returns-in-Ok-clause-ok : goal.returns-in-Ok-clause-ok
returns-in-Ok-clause-ok g c = λ replicas granted r here.
    let d = g.R.Runner.specification c.args.runner.now in
    let w = g.R.Runner.setting c.args.runner.now in
    let n = node_of c.args.at.now.node in let taken = c.args.at.now.taken.items in let lists = lists_of c.args.log.now in
    let m = c.index-sent.result.now in
    let same_length = ap (λ (l : Lists). length l.messages) c.make_room.ensures.same in
    let lt : c.args.message < length c.make_room.new.self.messages.items = omega (arith, c.if-message-len.false, c.len.ensures, c.args.log.now.messages.ok.0, same_length) in
    let sent = subst (λ (l : Lists). slice_get l.messages c.args.message ≡ Some m) c.make_room.ensures.same (read_at c.make_room.new.self.messages.items c.args.message m lt c.index-sent.ensures) in
    let left : Left = record { did = c.keep_heard.result; lists = lists_of c.keep_heard.new.log; taken = c.keep_heard.new.taken.items } in
    let is = c.in_ok-event.ensures ∙ ap (λ (t : List ℕ). event_for t n.waiting m) (c.as_slice.ensures.value ∙ c.make_room-2.ensures.same) in
    let after =
    subst (λ (t : List ℕ). IsAfterHeard lists t (id_of m) c.in_ok-event.event c.in-Ok.heard left) c.make_room-2.ensures.same
    (subst (λ (l : Lists). IsAfterHeard l c.make_room-2.new.list.items (id_of m) c.in_ok-event.event c.in-Ok.heard left) c.make_room.ensures.same
    (subst (λ (i : EventId). IsAfterHeard (lists_of c.make_room.new.self) c.make_room-2.new.list.items i c.in_ok-event.event c.in-Ok.heard left) c.id_of-id.ensures c.keep_heard.ensures)) in
    let told = told_so c.in-Ok.heard refusal.Memory (hear_answer (hear d w n m)) c.in-Ok.ensures.heard.answer in
    let known = hear_left d w replicas granted lists r n taken m c.in-Ok.heard c.in_ok-event.event is left here after told in
    next_network d w replicas granted lists r n taken left (node_of c.hear_over.new.self) (node_after_hear n (hear d w n m)) (hear_at (network_with replicas granted lists) r (replica n taken) (hear d w n m)) known c.in-Ok.ensures.heard.ok
    ∙ ap (λ o. network_after (network_with replicas granted lists) (hears_message d w (network_with replicas granted lists) r (replica n taken) o)) (sym sent)
