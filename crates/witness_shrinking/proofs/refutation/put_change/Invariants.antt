use Rattle.std.proofs.Common.{◌≡◌, length}
use Rattle.witness_shrinking.proofs.refutation.put_change.Given as goal

abbrev pub invariant-loop-place : goal.invariant-loop-place
invariant-loop-place l = (length l.state.relations ≡ length l.initial.state.relations) × (length l.state.counters ≡ length l.initial.state.counters)
