use Rattle.std.proofs.Common.{◌≡◌, ◌+◌, ◌++◌, [], ◌∷◌, ℕ, suc, List, length, take, slice_get, Some, refl, sym, subst, ap, arith}
use Rattle.std.proofs.lemmas.List.{length-append}
use Rattle.std.proofs.lemmas.Option.{slice_get_read}
use Rattle.lazy_ground.specs.declared.pairs.ReadingPairs.{ReadingPairs}
use Rattle.lazy_search.specs.declared.places.Place.{Place}
use Rattle.lazy_search.specs.Chosen.{IsMoved, pairs_among, all_pairs}
use Rattle.lazy_search.proofs.Placing.{moved_next, firsts_more}
use Rattle.lazy_search.proofs.places.firsts_of.Goals as goal

pub loop-relation-preserved : goal.loop-relation-preserved
loop-relation-preserved c =
    let first : Place = c.args.first in
    let ss : List ReadingPairs = c.args.relations.now in
    let k : ℕ = c.loop-relation.relation-index in
    let at : Place = c.loop-relation.at in
    let before : List Place = c.loop-relation.firsts.items in
    let s : ReadingPairs = c.relation-item.result in
    let inv = c.loop-relation.invariant in
    let grown : c.push.new.self.items ≡ before ++ at ∷ [] = c.in_ok-push.ensures.items in
    let item : slice_get ss k ≡ Some s = slice_get_read ss (length ss) k s refl c.loop-relation-test.true c.relation-item.is in
    let long : length c.push.new.self.items ≡ k + 1 =
    let l = length-append before (at ∷ []) in let g = ap (λ (z : List Place). length z) grown in let m = inv.as_many in omega (arith, l, g, m) in
    let last : IsMoved first (all_pairs (take (length before) ss)) at = subst (λ (z : ℕ). IsMoved first (all_pairs (take z ss)) at) (sym inv.as_many) inv.at in
    let each = firsts_more first ss before at inv.each last in
    let step : IsMoved at (pairs_among (length s.tuples)) c.in-Some.next = subst (λ (z : ℕ). IsMoved at (pairs_among z) c.in-Some.next) c.len.ensures c.in-Some.ensures in
    let next_k : suc k ≡ k + 1 = omega arith in
    record {
      as_many = long;
      each = subst (λ (z : List Place). (r : ℕ) (a : Place) → slice_get z r ≡ Some a → IsMoved first (all_pairs (take r ss)) a) (sym grown) each;
      at = subst (λ (z : ℕ). IsMoved first (all_pairs (take z ss)) c.in-Some.next) next_k (moved_next first at c.in-Some.next ss k s item inv.at step);
    }
