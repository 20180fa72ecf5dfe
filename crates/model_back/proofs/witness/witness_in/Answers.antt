use Rattle.std.proofs.Common.{ℕ, map, slice_index, slice_index_or, pos, ◌∙◌}
use Rattle.model_back.specs.Calls.{call_by}
use Rattle.model_back.proofs.witness.witness_in.Goals as goal

pub returns-clause-calls : goal.returns-clause-calls
returns-clause-calls c = c.in_ok-calls.ensures.calls ∙ (λ i. map (call_by (slice_index (c.deref-2.ensures.value i)) (λ (n : ℕ). slice_index_or (c.as_slice.ensures i) n (pos 0))) c.args.named.now.calls.now)

pub returns-clause-elements : goal.returns-clause-elements
returns-clause-elements c = c.in_ok-at.ensures ∙ (λ i. map (slice_index (c.deref.ensures.value i)) c.args.named.now.consts.now)
