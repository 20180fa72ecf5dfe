use Rattle.std.proofs.Common.{◌≡◌, ◌++◌, map, drop, slice_index}
use Rattle.model_back.proofs.witness.elements_at.Given as goal

abbrev pub invariant-loop-c : goal.invariant-loop-c
invariant-loop-c l = map (slice_index l.elements) l.consts ≡ l.out ++ map (slice_index l.elements) (drop l.c-index l.consts)
