use Rattle.std.proofs.Common.{◌≡◌, true, ℕ, List, take}
use Rattle.spec_core.specs.State.{is_in, is_rising}
use Rattle.spec_states.proofs.initial.tuples_from.Given as goal

abbrev pub invariant-loop-tuple : goal.invariant-loop-tuple
invariant-loop-tuple l = record {
  has : (q : List ℕ) → is_in q l.set ≡ is_in q (take l.tuple-index l.all);
  rising : is_rising l.set ≡ true;
}
