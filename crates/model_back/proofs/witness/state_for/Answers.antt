use Rattle.std.proofs.Common.{rules, ℕ, List, slice_index, subst}
use Rattle.std.specs.Prelude.{IfOk}
use Rattle.model_back.specs.Witnesses.{IsStateFor}
use Rattle.model_back.proofs.witness.state_for.Goals as goal

pub returns-in_default : goal.returns-in_default
returns-in_default c =
    let found = c.args.found.now in
    let read : IfOk c.entry_state.result (λ s. IsStateFor c.args.spec.now c.args.ob.now c.args.classed.now.world (slice_index c.deref.result.now) found.truths found.ints c.args.atoms.now.table s) = search rules in
    subst (λ (x : List ℕ). IfOk c.entry_state.result (λ s. IsStateFor c.args.spec.now c.args.ob.now c.args.classed.now.world (slice_index x) found.truths found.ints c.args.atoms.now.table s)) c.deref.ensures.value read
