use Rattle.std.proofs.Common.{◌≡◌, ℕ, ◌+◌, ◌<◌, ◌≤◌, pos, List, [], ◌∷◌, ◌++◌, sym, ◌∙◌, ap, subst, arith, ◌⊎◌, inl, inr}
use Rattle.std.proofs.lemmas.Bool.{cases_lt}
use Rattle.std.proofs.lemmas.Int.{ints}
use Rattle.std.proofs.lemmas.List.{get_or_append_left, get_or_push, length_push}
use Rattle.std.proofs.Math.IntN.{*ℤ-zero}
use Rattle.diff_bounds.specs.declared.edges.Edge.{Edge}
use Rattle.diff_bounds.specs.declared.walks.Visit.{Visit}
use Rattle.diff_bounds.specs.Walks.{visit_at, IsVisit, latest_at, start_at, AreStarts, AreWalks, AreShort, AreAhead}
use Rattle.diff_bounds.proofs.Pushing.{old_at, new_at}

-- WALKS WITHOUT EDGES

pub starts-more : (k : ℕ) (V : List Visit) (L : List ℕ) → AreStarts k V L → AreStarts (k + 1) (V ++ start_at k ∷ []) (L ++ k ∷ [])
starts-more k V L s = record {
  visit_count = length_push V (start_at k) ∙ ap (λ j. j + 1) s.visit_count;
  latest_count = length_push L k ∙ ap (λ j. j + 1) s.latest_count;
  each = λ p h. each p h (cases_lt p k);
  own = λ p h. own p h (cases_lt p k);
}
  where
    each : (p : ℕ) → p < k + 1 → (p < k) ⊎ (k ≤ p) → visit_at (V ++ start_at k ∷ []) p ≡ start_at p
    each p h (inl l) = old_at V (start_at k) p (omega (arith, s.visit_count)) ∙ s.each p l
    each p h (inr l) = let e : k ≡ p = omega arith in new_at V (start_at k) p (omega (arith, s.visit_count)) ∙ ap start_at e

    own : (p : ℕ) → p < k + 1 → (p < k) ⊎ (k ≤ p) → latest_at (L ++ k ∷ []) p ≡ p
    own p h (inl l) = get_or_append_left L (k ∷ []) 0 p (omega (arith, s.latest_count)) ∙ s.own p l
    own p h (inr l) = let e : k ≡ p = omega arith in get_or_push L k 0 p (omega (arith, s.latest_count)) ∙ e

visit-start : (n : ℕ) (E : List Edge) (i : ℕ) (u : Visit) → i ≤ n → IsVisit n E i (start_at i) u
visit-start n E i u h = record {
  place_below = h;
  depth_below = omega arith;
  not_above = omega (arith, ints);
  not_below = (let z = *ℤ-zero (pos (n + 1)) in omega (arith, ints));
  not_later = omega arith;
  step = λ d. absurd (omega arith);
}

pub starts-walks : (n : ℕ) (E : List Edge) (V : List Visit) (L : List ℕ) → AreStarts (n + 1) V L → AreWalks n E V L
starts-walks n E V L s = record {
  each = λ i h. subst (λ (v : Visit). IsVisit n E i v (visit_at V (visit_at V i).before)) (sym (s.each i (omega (arith, s.visit_count)))) (visit-start n E i (visit_at V (visit_at V i).before) (omega (arith, s.visit_count)));
  falls = λ i j h k e. absurd (let a = place i (omega (arith, s.visit_count)) in let b = place j (omega (arith, s.visit_count)) in omega arith);
  count = s.latest_count;
  there = λ p h. omega (arith, s.own p (omega arith), s.visit_count);
  same = λ p h. ap (λ j. (visit_at V j).place) (s.own p (omega arith)) ∙ place p (omega arith);
  last = λ i h. (let a = place i (omega (arith, s.visit_count)) in subst (λ (p : ℕ). i ≤ latest_at L p) (sym a) (omega (arith, s.own i (omega (arith, s.visit_count)))));
}
  where
    place : (i : ℕ) → i < n + 1 → (visit_at V i).place ≡ i
    place i h = ap (λ (v : Visit). v.place) (s.each i h)

pub starts-short : (n : ℕ) (V : List Visit) (L : List ℕ) → AreStarts (n + 1) V L → AreShort n V L
starts-short n V L s p h =
    let e = ap (λ j. (visit_at V j).depth) (s.own p (omega arith)) ∙ ap (λ (v : Visit). v.depth) (s.each p (omega arith)) in omega arith

pub starts-ahead : (E : List Edge) (V : List Visit) (L : List ℕ) → AreAhead V L E 0 0
starts-ahead E V L = record { all = λ i h. inr (omega arith); first = λ i h k. absurd (omega arith) }
