use Rattle.std.proofs.Common.{sym, ◌∙◌, arith}
use Rattle.spec_core.specs.State.{reads}
use Rattle.obligation_list.specs.Refuting.{refutes_in}
use Rattle.obligation_list.proofs.Refuted.{one_call, two_calls}
use Rattle.obligation_list.proofs.breaking.refutes_in.Goals as goal

pub returns-in-len1 : goal.returns-in-len1
returns-in-len1 c =
    let d = c.args.spec.now in let w = c.args.world.now in let r = reads c.args.state.now in let cs = c.args.calls.now in let es = c.args.elements.now in
    let calls = one_call cs c.a-item.result (omega arith) c.a-item.is in
    c.refutes_safety.ensures ∙ (λ i. refutes_in d (sym c.in-Safety.is i) w r (sym calls i) es)

pub returns-in-len2 : goal.returns-in-len2
returns-in-len2 c =
    let d = c.args.spec.now in let w = c.args.world.now in let r = reads c.args.state.now in let cs = c.args.calls.now in let es = c.args.elements.now in
    let calls = two_calls cs c.a-item-then-calls-lt3.result c.b-item.result (omega arith) c.a-item-then-calls-lt3.is c.b-item.is in
    c.refutes_commute.ensures ∙ (λ i. refutes_in d (sym c.in-Commute.is i) w r (sym calls i) es)

pub returns-in-len2-calls : goal.returns-in-len2-calls
returns-in-len2-calls c =
    let d = c.args.spec.now in let w = c.args.world.now in let r = reads c.args.state.now in let cs = c.args.calls.now in let es = c.args.elements.now in
    let calls = two_calls cs c.a-item-then-calls-lt3-2.result c.b-item-then-calls-lt3-2.result (omega arith) c.a-item-then-calls-lt3-2.is c.b-item-then-calls-lt3-2.is in
    c.refutes_stable.ensures ∙ (λ i. refutes_in d (sym c.in-Stable.is i) w r (sym calls i) es)
