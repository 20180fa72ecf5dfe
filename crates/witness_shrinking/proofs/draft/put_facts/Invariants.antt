use Rattle.std.proofs.Common.{◌≡◌, length}
use Rattle.witness_shrinking.proofs.draft.put_facts.Given as goal

abbrev pub invariant-loop-fact : goal.invariant-loop-fact
invariant-loop-fact l = (length l.state.relations ≡ length l.initial.state.relations) × (length l.state.counters ≡ length l.initial.state.counters)
