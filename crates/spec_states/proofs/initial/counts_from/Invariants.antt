use Rattle.std.proofs.Common.{◌≡◌, true, ℕ, pos, cond, List, take}
use Rattle.spec_core.specs.State.{is_in, count_in, listed_keys}
use Rattle.spec_core.specs.Fits.{is_counts}
use Rattle.spec_states.proofs.initial.counts_from.Given as goal

abbrev pub invariant-loop-key : goal.invariant-loop-key
invariant-loop-key l = record {
  count : (q : List ℕ) → count_in l.counts q ≡ cond (is_in q (take l.key-index l.all)) l.value (pos 0);
  listed : (q : List ℕ) → is_in q (listed_keys l.counts) ≡ is_in q (take l.key-index l.all);
  good : is_counts l.counts ≡ true;
}
