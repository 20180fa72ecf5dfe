use Rattle.std.proofs.Common.{◌≡◌, ℕ, Bool, true, false, not, ◌&&◌, ◌||◌, inl, inr, List, sym, ◌∙◌, subst}
use Rattle.std.specs.List.{list_any}
use Rattle.std.proofs.lemmas.Bool.{and_parts, and_from, or_cases, false_from_ne_true, not-true, not_from_false}
use Rattle.proof_lines.specs.declared.clause.Lit.{Lit}
use Rattle.proof_lines.specs.Clauses.{has, same_lit, flip, lit_of}
use Rattle.proof_lines.proofs.Sets.{same_lit-is, same_lit-refl}
use Rattle.sat_core.specs.declared.trail.Entry.{Entry}
use Rattle.sat_core.specs.Trails.{in_trail, negated, is_assigned, is_false, others_false, is_unit, quiet, IsTrail}
use Rattle.sat_core.proofs.Trails.{all_has, any_has, in_assigned, one-way}
use Rattle.sat_core.proofs.Forcing.{assigned_one}
use Rattle.unit_propagation.specs.declared.looking.Watched.{Watched}
use Rattle.unit_propagation.specs.Watches.{rests, is_open}

-- Clauses at rest.

-- a clause with a literal that isn't false isn't false
pub open_not_false : (t : List Entry) (c : List Lit) (l : Lit) → has c l ≡ true → negated t l ≡ false → is_false t c ≡ false
open_not_false t c l h n = false_from_ne_true (is_false t c) (λ f. (let k = all_has (negated t) c l f h in absurd cc))

pub watched_not_false : (t : List Entry) (c : List Lit) (w : Watched) → has c w.first ≡ true → has c w.second ≡ true → is_open t w ≡ true → is_false t c ≡ false
watched_not_false t c w h k o = elim (or_cases (not (negated t w.first)) (not (negated t w.second)) o) [
  | inl n ↦ open_not_false t c w.first h (not-true (negated t w.first) n)
  | inr n ↦ open_not_false t c w.second k (not-true (negated t w.second) n)
]

-- what a clause has that is unit
record Remaining (t : List Entry) (c : List Lit) : Type 0 where
  lit : Lit
  others_false : others_false t c lit ≡ true
  unassigned : is_assigned t lit.atom ≡ false

remaining : (t : List Entry) (c : List Lit) → list_any (is_unit t c) c ≡ true → Remaining t c
remaining t c h =
    let r = any_has (is_unit t c) c h in
    let p = and_parts (has c r.0) (others_false t c r.0 && not (is_assigned t r.0.atom)) r.2 in
    let q = and_parts (others_false t c r.0) (not (is_assigned t r.0.atom)) p.1 in
    record { lit = r.0; others_false = q.0; unassigned = not-true (is_assigned t r.0.atom) q.1 }

-- a literal of a unit clause that isn't false is the remaining one
the_remaining : (t : List Entry) (c : List Lit) (l : Lit) (r : Remaining t c) → has c l ≡ true → negated t l ≡ false → l ≡ r.lit
the_remaining t c l r h n = elim (or_cases (same_lit l r.lit) (negated t l) (all_has (λ x. same_lit x r.lit || negated t x) c l r.others_false h)) [
  | inl s ↦ same_lit-is l r.lit s
  | inr s ↦ absurd cc
]

no_true : (cs : List (List Lit)) (t : List Entry) (c : List Lit) (l : Lit) (r : Remaining t c) → IsTrail cs t → has c l ≡ true → in_trail t l ≡ true → ⊥
no_true cs t c l r w h i =
    let e = the_remaining t c l r h (one-way cs t l w i) in
    let n : is_assigned t r.lit.atom ≡ true = subst (λ (z : Lit). is_assigned t z.atom ≡ true) e (in_assigned t l i) in
    let u = r.unassigned in
    absurd cc

no_two : (t : List Entry) (c : List Lit) (a b : Lit) (r : Remaining t c) → has c a ≡ true → has c b ≡ true → negated t a ≡ false → negated t b ≡ false → same_lit a b ≡ false → ⊥
no_two t c a b r h k n m d =
    let e : a ≡ b = the_remaining t c a r h n ∙ sym (the_remaining t c b r k m) in
    let s : same_lit a b ≡ true = subst (λ (z : Lit). same_lit a z ≡ true) e (same_lit-refl a) in
    absurd cc

-- the parts of being at rest
pub data Rest (t : List Entry) (w : Watched) : Type 0 where
  first_true : in_trail t w.first ≡ true → Rest t w
  second_true : in_trail t w.second ≡ true → Rest t w
  both_open : same_lit w.first w.second ≡ false → negated t w.first ≡ false → negated t w.second ≡ false → Rest t w

pub rest_of : (t : List Entry) (w : Watched) → rests t w ≡ true → Rest t w
rest_of t w h = elim (or_cases (in_trail t w.first) _ h) [
  | inl a ↦ first_true a
  | inr a ↦ elim (or_cases (in_trail t w.second) _ a) [
    | inl b ↦ second_true b
    | inr b ↦ (let p = and_parts (not (same_lit w.first w.second)) _ b in
        let q = and_parts (not (negated t w.first)) (not (negated t w.second)) p.1 in
        both_open (not-true (same_lit w.first w.second) p.0) (not-true (negated t w.first) q.0) (not-true (negated t w.second) q.1))
  ]
]

-- a clause at rest is neither false nor unit
pub rest_not_false : (cs : List (List Lit)) (t : List Entry) (c : List Lit) (w : Watched) → IsTrail cs t → has c w.first ≡ true → has c w.second ≡ true → Rest t w → is_false t c ≡ false
rest_not_false cs t c w g h k (first_true a) = open_not_false t c w.first h (one-way cs t w.first g a)
rest_not_false cs t c w g h k (second_true a) = open_not_false t c w.second k (one-way cs t w.second g a)
rest_not_false cs t c w g h k (both_open d n m) = open_not_false t c w.first h n

rest_not_unit : (cs : List (List Lit)) (t : List Entry) (c : List Lit) (w : Watched) → IsTrail cs t → has c w.first ≡ true → has c w.second ≡ true → Rest t w → list_any (is_unit t c) c ≡ false
rest_not_unit cs t c w g h k r = false_from_ne_true (list_any (is_unit t c) c) (λ u. by_rest r (remaining t c u))
  where
    by_rest : Rest t w → Remaining t c → ⊥
    by_rest (first_true a) u = no_true cs t c w.first u g h a
    by_rest (second_true a) u = no_true cs t c w.second u g k a
    by_rest (both_open d n m) u = no_two t c w.first w.second u h k n m d

pub rest_quiet : (cs : List (List Lit)) (t : List Entry) (c : List Lit) (w : Watched) → IsTrail cs t → has c w.first ≡ true → has c w.second ≡ true → Rest t w → quiet t c ≡ true
rest_quiet cs t c w g h k r = and_from (not (is_false t c)) (not (list_any (is_unit t c) c)) (not_from_false (is_false t c) (rest_not_false cs t c w g h k r)) (not_from_false (list_any (is_unit t c) c) (rest_not_unit cs t c w g h k r))

-- LOOKING.

-- a literal without its opposite that isn't true either has no value
pub no_value : (t : List Entry) (l : Lit) → in_trail t l ≡ false → negated t l ≡ false → is_assigned t l.atom ≡ false
no_value t l a b = false_from_ne_true (is_assigned t l.atom) (λ n. by_sign l.atom l.positive n a b)
  where
    by_sign : (x : ℕ) (s : Bool) → is_assigned t x ≡ true → in_trail t (lit_of x s) ≡ false → in_trail t (flip (lit_of x s)) ≡ false → ⊥
    by_sign x true n a b = elim (assigned_one t x n) [ inl h ↦ absurd cc | inr h ↦ absurd cc ]
    by_sign x false n a b = elim (assigned_one t x n) [ inl h ↦ absurd cc | inr h ↦ absurd cc ]
