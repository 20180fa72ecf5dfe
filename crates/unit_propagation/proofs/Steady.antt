use Rattle.std.proofs.Common.{◌≡◌, ℕ, ◌≤◌, Bool, true, false, not, cond, ◌==◌, ◌&&◌, ◌||◌, inl, inr, List, [], ◌∷◌, refl, sym, subst, Option, Some, None, arith}
use Rattle.std.specs.Prelude.{is_none}
use Rattle.std.proofs.lemmas.Bool.{and_from, or_cases, or_parts, or_left, or_right, false_from_ne_true, not_from_false}
use Rattle.proof_lines.specs.declared.clause.Lit.{Lit}
use Rattle.proof_lines.specs.Clauses.{has, same_lit, flip, distinct}
use Rattle.proof_lines.proofs.Sets.{same_lit-is, same_lit-refl}
use Rattle.sat_core.specs.declared.trail.Entry.{Entry}
use Rattle.sat_core.specs.Trails.{in_trail, negated, is_assigned, is_false, others_false, is_unit, after, before_last, has_decision, open_in}
use Rattle.sat_core.proofs.Trails.{all_has, has_all, open_two}
use Rattle.sat_core.specs.Searching.{IsBefore}
use Rattle.sat_core.proofs.Backjumps.{before-last, before-in, before-decided}
use Rattle.unit_propagation.specs.declared.looking.Watched.{Watched}
use Rattle.unit_propagation.specs.Watches.{rests, is_open, turned, IsSteady}
use Rattle.unit_propagation.proofs.Resting.{Rest, first_true, second_true, both_open, rest_of, no_value}

-- Clauses that are at rest before each decision of a trail.

pub rest_from : (t : List Entry) (w : Watched) → Rest t w → rests t w ≡ true
rest_from t w (first_true a) = or_left (in_trail t w.first) _ a
rest_from t w (second_true a) = or_right (in_trail t w.first) _ (or_left (in_trail t w.second) _ a)
rest_from t w (both_open d n m) =
    or_right (in_trail t w.first) _ (or_right (in_trail t w.second) _ (and_from (not (same_lit w.first w.second)) _ (not_from_false (same_lit w.first w.second) d)
    (and_from (not (negated t w.first)) (not (negated t w.second)) (not_from_false (negated t w.first) n) (not_from_false (negated t w.second) m))))

pub apart-turned : (a b : Lit) → same_lit a b ≡ false → same_lit b a ≡ false
apart-turned a b h = false_from_ne_true (same_lit b a) (λ s. (let k : same_lit a b ≡ true = subst (λ (z : Lit). same_lit a z ≡ true) (sym (same_lit-is b a s)) (same_lit-refl a) in absurd cc))

pub rest-turned : (t : List Entry) (w : Watched) → Rest t w → Rest t (turned w)
rest-turned t w (first_true a) = second_true a
rest-turned t w (second_true a) = first_true a
rest-turned t w (both_open d n m) = both_open (apart-turned w.first w.second d) m n

pub steady-turned : (t : List Entry) (w : Watched) → IsSteady t w → IsSteady t (turned w)
steady-turned t w s = λ u k. rest_from u (turned w) (rest-turned u w (rest_of u w (s u k)))

-- what isn't in a trail wasn't in it before
out-before : (u t : List Entry) (l : Lit) → IsBefore u t → in_trail t l ≡ false → in_trail u l ≡ false
out-before u t l b n = false_from_ne_true (in_trail u l) (λ h. (let k = before-in u t l b h in absurd cc))

pub out-last : (t : List Entry) (l : Lit) → in_trail t l ≡ false → in_trail (before_last t) l ≡ false
out-last [] l n = n
out-last (e ∷ t) l n = by_case e.reason (parts (same_lit e.lit l) (in_trail t l) n) (out-last t l)
  where
    parts : (a b : Bool) → (a || b) ≡ false → b ≡ false
    parts a b h = grind arith

    by_case : (r : Option ℕ) → in_trail t l ≡ false → (in_trail t l ≡ false → in_trail (before_last t) l ≡ false) → in_trail (after r t (before_last t)) l ≡ false
    by_case None h f = h
    by_case (Some r) h f = f h

-- a watched literal that isn't true makes way for one that isn't false
pub steady-moved : (t : List Entry) (w : Watched) (x : Lit) → in_trail t w.first ≡ false → negated t x ≡ false → same_lit x w.second ≡ false → IsSteady t w → IsSteady t (record { first = x; second = w.second })
steady-moved t w x n o d s = λ u k. rest_from u (record { first = x; second = w.second }) (by_rest u k (rest_of u w (s u k)))
  where
    by_rest : (u : List Entry) → IsBefore u t → Rest u w → Rest u (record { first = x; second = w.second })
    by_rest u k (first_true a) = absurd (let h = out-before u t w.first k n in cc)
    by_rest u k (second_true a) = second_true a
    by_rest u k (both_open e p q) = both_open d (out-before u t (flip x) k o) q

-- one more literal on the trail: a decision is taken only where clauses are at rest
pub steady-pushed : (e : Entry) (t : List Entry) (w : Watched) → (e.reason ≡ None → rests t w ≡ true) → IsSteady t w → IsSteady (e ∷ t) w
steady-pushed e t w f s u (inl p) = subst (λ (z : List Entry). rests z w ≡ true) (sym p.1) (f (reason_none e.reason p.0))
  where
    reason_none : (r : Option ℕ) → is_none r ≡ true → r ≡ None
    reason_none None h = refl
    reason_none (Some r) h = absurd cc
steady-pushed e t w f s u (inr p) = s u p

-- two literals that aren't false before the last decision
pub steady-apart : (t : List Entry) (a b : Lit) → same_lit a b ≡ false → negated (before_last t) a ≡ false → negated (before_last t) b ≡ false → IsSteady t (record { first = a; second = b })
steady-apart t a b d n m = λ u k. rest_from u (record { first = a; second = b }) (both_open d (out u k (flip a) n) (out u k (flip b) m))
  where
    out : (u : List Entry) → IsBefore u t → (l : Lit) → in_trail (before_last t) l ≡ false → in_trail u l ≡ false
    out u k l n = elim (before-last u t k) [
      | inl e ↦ subst (λ (z : List Entry). in_trail z l ≡ false) (sym e) n
      | inr h ↦ out-before u (before_last t) l h n
    ]

or_last : (a b : Bool) → (a || b) ≡ true → a ≡ false → b ≡ true
or_last a b p q = grind arith

-- where all others are false before the last decision, there is none
pub steady-others : (t : List Entry) (c : List Lit) (a b : Lit) → distinct c ≡ true → (has_decision t ≡ true → 2 ≤ open_in (before_last t) c) → others_false (before_last t) c a ≡ true → IsSteady t (record { first = a; second = b })
steady-others t c a b d wide h u k = absurd (
    let w = open_two (before_last t) c a d (wide (before-decided u t k)) in
    let s = all_has (λ x. same_lit x a || negated (before_last t) x) c w.lit h w.held in
    let n = or_last (same_lit w.lit a) (negated (before_last t) w.lit) s w.other in
    let o = w.still in cc)

-- a clause whose literals but one are false
pub false-others : (t : List Entry) (c : List Lit) (l : Lit) → others_false t c l ≡ true → negated t l ≡ true → is_false t c ≡ true
false-others t c l h n = has_all (negated t) c (λ x k. elim (or_cases (same_lit x l) (negated t x) (all_has (λ y. same_lit y l || negated t y) c x h k)) [
  | inl s ↦ subst (λ (z : Lit). negated t z ≡ true) (sym (same_lit-is x l s)) n
  | inr r ↦ r
])

pub unit-others : (t : List Entry) (c : List Lit) (l : Lit) → has c l ≡ true → others_false t c l ≡ true → in_trail t l ≡ false → negated t l ≡ false → is_unit t c l ≡ true
unit-others t c l h k a b = and_from (has c l) (others_false t c l && not (is_assigned t l.atom)) h (and_from (others_false t c l) (not (is_assigned t l.atom)) k (not_from_false (is_assigned t l.atom) (no_value t l a b)))

-- NEW LITERALS TO WATCH.

-- both make way
pub steady-both : (t : List Entry) (w : Watched) (x y : Lit) → in_trail t w.first ≡ false → in_trail t w.second ≡ false → negated t x ≡ false → same_lit x w.second ≡ false → negated t y ≡ false → same_lit y x ≡ false → IsSteady t w → IsSteady t (record { first = x; second = y })
steady-both t w x y n m o d p e s =
    steady-turned t (record { first = y; second = x }) (steady-moved t (record { first = w.second; second = x }) y m p e (steady-turned t (record { first = x; second = w.second }) (steady-moved t w x n o d s)))

pub two_open : (t : List Entry) (x y : Lit) → same_lit y x ≡ false → negated t x ≡ false → negated t y ≡ false → rests t (record { first = x; second = y }) ≡ true
two_open t x y e n m = rest_from t (record { first = x; second = y }) (both_open (apart-turned y x e) n m)

pub restless : (t : List Entry) (w : Watched) → rests t w ≡ false → (in_trail t w.first ≡ false) × (in_trail t w.second ≡ false)
restless t w h = let p = or_parts (in_trail t w.first) _ h in (p.0, (or_parts (in_trail t w.second) _ p.1).0)

pub unit_first : (t : List Entry) (c : List Lit) (w : Watched) → has c w.first ≡ true → others_false t c w.first ≡ true → rests t w ≡ false → negated t w.first ≡ false → (is_unit t c w.first ≡ true) × (is_open t w ≡ true)
unit_first t c w h l r n = (unit-others t c w.first h l (restless t w r).0 n, or_left (not (negated t w.first)) (not (negated t w.second)) (not_from_false (negated t w.first) n))

pub unit_second : (t : List Entry) (c : List Lit) (w : Watched) → has c w.second ≡ true → others_false t c w.second ≡ true → in_trail t w.second ≡ false → negated t w.second ≡ false → (is_unit t c w.second ≡ true) × (is_open t w ≡ true)
unit_second t c w h l r n = (unit-others t c w.second h l r n, or_right (not (negated t w.first)) (not (negated t w.second)) (not_from_false (negated t w.second) n))

-- one literal, counted
pub open-one : (t : List Entry) (l : Lit) → (open_in t (l ∷ []) == 1) ≡ not (negated t l)
open-one t l = by_case (negated t l)
  where
    by_case : (b : Bool) → (cond b 0 1 == 1) ≡ not b
    by_case true = refl
    by_case false = refl
