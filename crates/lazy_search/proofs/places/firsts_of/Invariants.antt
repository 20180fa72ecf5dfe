use Rattle.std.proofs.Common.{◌≡◌, ℕ, length, take, slice_get, Some}
use Rattle.lazy_search.specs.declared.places.Place.{Place}
use Rattle.lazy_search.specs.Chosen.{IsMoved, all_pairs}
use Rattle.lazy_search.proofs.places.firsts_of.Given as goal

abbrev pub invariant-loop-relation : goal.invariant-loop-relation
invariant-loop-relation l = record {
  as_many : length l.firsts.items ≡ l.relation-index;
  each : (r : ℕ) (a : Place) → slice_get l.firsts.items r ≡ Some a → IsMoved l.fn.first (all_pairs (take r l.relations)) a;
  at : IsMoved l.fn.first (all_pairs (take l.relation-index l.relations)) l.at;
}
