use Rattle.std.proofs.Common.{ℕ, ◌-◌, List, length, take, drop, ◌∙◌, ap, subst, Option, IfOk}
use Rattle.spec_core.specs.Specification.{op_of}
use Rattle.spec_core.specs.World.{tuples}
use Rattle.spec_core.specs.State.{reads}
use Rattle.effectors.specs.Effect.{count_after}
use Rattle.effectors.specs.Beyond.{Beyond}
use Rattle.effectors.specs.Refusal.{refused_by}
use Rattle.effectors.proofs.Outsides.{head_rest, outside_later}
use Rattle.effectors.proofs.applying.+first_outside.Goals as goal

pub returns : goal.returns
returns t c =
    let w = c.args.world.now in let call = c.args.call.now in let s = c.args.state.now in let xs = c.args.counters.now in
    let f = λ (k : ℕ) (t : List ℕ). count_after w (reads s) call.args k t (op_of c.args.spec.now call.op).updates ((reads s).count k t) in
    let keys = c.as_slice-in-len1-up.ensures ∙ c.in_ok-keys-in-len1-up.ensures ∙ ap (tuples w) c.as_slice.ensures in
    let e = outside_later w f c.args.counter xs (take (length xs - 1) (drop 1 xs)) c.it-item.result c.as_slice-in-len1-up.result.now c.in_ok-key-in-len1-up.field-0
    (head_rest xs c.it-item.result c.in-len1-up.len_at_least c.it-item.is) keys c.in-None.is c.in_ok-key-in-len1-up.ensures in
    subst (λ (z : Option Beyond). IfOk c.first_outside.result (λ o. refused_by o z)) e c.first_outside.ensures
