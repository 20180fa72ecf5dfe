use Rattle.std.proofs.Common.{◌≡◌, ℕ, zero, suc, ◌+◌, ◌≤◌, Bool, true, false, not, cond, ◌&&◌, ◌||◌, ◌==◌, ◌⊎◌, inl, inr, List, [], ◌∷◌, refl, sym, ◌∙◌, ap, subst, arith, Option, Some, None}
use Rattle.std.specs.List.{list_any, list_all, count_by}
use Rattle.std.proofs.lemmas.List.Recursion.{is_count_by}
use Rattle.proof_lines.specs.declared.clause.Lit.{Lit}
use Rattle.proof_lines.specs.Clauses.{has, sub, distinct, same_lit, flip}
use Rattle.std.proofs.lemmas.Bool.{and_parts, or_cases, or_parts, or_left, or_right, and_from, not-true, not_from_false}
use Rattle.proof_lines.proofs.Sets.{same_lit-is, same_lit-refl, flip_twice, flip-apart, has-cases}
use Rattle.sat_core.specs.declared.trail.Entry.{Entry}
use Rattle.sat_core.specs.Trails.{in_trail, negated, is_assigned, is_false, others_false, is_unit, quiet, Settled, open_in, after, before_last, is_decision, has_decision, IsStep, IsTrail}

or_last : (a b : Bool) → (a || b) ≡ true → a ≡ false → b ≡ true
or_last a b p q = grind arith

-- a test on each literal of a clause
pub all_has : (p : Lit → Bool) (c : List Lit) (l : Lit) → list_all p c ≡ true → has c l ≡ true → p l ≡ true
all_has p [] l h k = absurd cc
all_has p (x ∷ c) l h k = elim (has-cases x c l k) [
  | inl e ↦ subst (λ (z : Lit). p z ≡ true) e (and_parts (p x) (list_all p c) h).0
  | inr e ↦ all_has p c l (and_parts (p x) (list_all p c) h).1 e
]

pub has_all : (p : Lit → Bool) (c : List Lit) → ((l : Lit) → has c l ≡ true → p l ≡ true) → list_all p c ≡ true
has_all p [] h = refl
has_all p (x ∷ c) h = and_from (p x) (list_all p c) (h x (or_left (same_lit x x) (has c x) (same_lit-refl x))) (has_all p c (λ l k. h l (or_right (same_lit x l) (has c l) k)))

pub any_has : (p : Lit → Bool) (c : List Lit) → list_any p c ≡ true → (l : Lit) × (has c l ≡ true) × (p l ≡ true)
any_has p [] h = absurd cc
any_has p (x ∷ c) h = elim (or_cases (p x) (list_any p c) h) [
  | inl e ↦ (x, or_left (same_lit x x) (has c x) (same_lit-refl x), e)
  | inr e ↦ (let r = any_has p c e in (r.0, or_right (same_lit x r.0) (has c r.0) r.1, r.2))
]

pub flip_back : (a b : Lit) → same_lit a (flip b) ≡ true → flip a ≡ b
flip_back a b h = ap flip (same_lit-is a (flip b) h) ∙ flip_twice b

-- the trail
pub in_assigned : (t : List Entry) (l : Lit) → in_trail t l ≡ true → is_assigned t l.atom ≡ true
in_assigned [] l h = absurd cc
in_assigned (e ∷ t) l h = elim (or_cases (same_lit e.lit l) (in_trail t l) h) [
  | inl s ↦ or_left (e.lit.atom == l.atom) (is_assigned t l.atom) (and_parts (e.lit.atom == l.atom) _ s).0
  | inr s ↦ or_right (e.lit.atom == l.atom) (is_assigned t l.atom) (in_assigned t l s)
]

pub negated-more : (e : Entry) (t : List Entry) (l : Lit) → negated t l ≡ true → negated (e ∷ t) l ≡ true
negated-more e t l h = or_right (same_lit e.lit (flip l)) (negated t l) h

pub false-more : (e : Entry) (t : List Entry) (c : List Lit) → is_false t c ≡ true → is_false (e ∷ t) c ≡ true
false-more e t c h = has_all (negated (e ∷ t)) c (λ l k. negated-more e t l (all_has (negated t) c l h k))

-- what is false not by the newest literal is false before it
pub false-older : (e : Entry) (t : List Entry) (c : List Lit) → is_false (e ∷ t) c ≡ true → has c (flip e.lit) ≡ false → is_false t c ≡ true
false-older e t c h n = has_all (negated t) c one
  where
    one : (l : Lit) → has c l ≡ true → negated t l ≡ true
    one l k = elim (or_cases (same_lit e.lit (flip l)) (negated t l) (all_has (negated (e ∷ t)) c l h k)) [
      | inl s ↦ absurd (let q = flip_back e.lit l s in let r : has c l ≡ false = subst (λ (z : Lit). has c z ≡ false) q n in cc)
      | inr s ↦ s
    ]

pub unassigned-open : (t : List Entry) (l : Lit) → is_assigned t l.atom ≡ false → negated t (flip l) ≡ false
unassigned-open t l n = by_case (negated t (flip l)) refl
  where
    by_case : (b : Bool) → negated t (flip l) ≡ b → b ≡ false
    by_case true h = absurd (let k : in_trail t l ≡ true = subst (λ (z : Lit). in_trail t z ≡ true) (flip_twice l) h in let m = in_assigned t l k in cc)
    by_case false h = refl

pub held-open : (e : Entry) (t : List Entry) (c : List Lit) → is_assigned t e.lit.atom ≡ false → has c (flip e.lit) ≡ true → is_false t c ≡ false
held-open e t c n h = by_case (is_false t c) refl
  where
    by_case : (b : Bool) → is_false t c ≡ b → b ≡ false
    by_case true f = absurd (let a = all_has (negated t) c (flip e.lit) f h in let b = unassigned-open t e.lit n in cc)
    by_case false f = refl

-- counting
pub open_zero : (t : List Entry) (c : List Lit) → is_false t c ≡ true → open_in t c ≡ 0
open_zero t [] h = refl
open_zero t (x ∷ c) h =
    let p = and_parts (negated t x) (is_false t c) h in
    ap (λ b. cond b (open_in t c) (1 + open_in t c)) p.0 ∙ open_zero t c p.1

pub zero-open : (t : List Entry) (c : List Lit) → open_in t c ≡ 0 → is_false t c ≡ true
zero-open t [] h = refl
zero-open t (x ∷ c) h = by_case (λ z. zero-open t c z) (negated t x) refl h
  where
    by_case : (open_in t c ≡ 0 → is_false t c ≡ true) → (b : Bool) → negated t x ≡ b → cond b (open_in t c) (1 + open_in t c) ≡ 0 → (negated t x && is_false t c) ≡ true
    by_case ih true e h = and_from (negated t x) (is_false t c) e (ih h)
    by_case ih false e h = absurd (omega arith)

pub open-more : (e : Entry) (t : List Entry) (c : List Lit) → open_in (e ∷ t) c ≤ open_in t c
open-more e t [] = omega arith
open-more e t (x ∷ c) = by_case (open-more e t c) (same_lit e.lit (flip x)) (negated t x)
  where
    by_case : open_in (e ∷ t) c ≤ open_in t c → (a b : Bool) → cond (a || b) (open_in (e ∷ t) c) (1 + open_in (e ∷ t) c) ≤ cond b (open_in t c) (1 + open_in t c)
    by_case ih true true = ih
    by_case ih true false = omega arith
    by_case ih false true = ih
    by_case ih false false = omega arith

-- a literal that is left open
pub record Left (t : List Entry) (c : List Lit) (x : Lit) : Type 0 where
  pub lit : Lit
  pub held : has c lit ≡ true
  pub other : same_lit lit x ≡ false
  pub still : negated t lit ≡ false

open_one : (t : List Entry) (c : List Lit) (x : Lit) → 1 ≤ open_in t c → has c x ≡ false → Left t c x
open_one t [] x h n = absurd (omega arith)
open_one t (y ∷ c) x h n = by_case (open_one t c x) (negated t y) refl h
  where
    apart : (same_lit y x ≡ false) × (has c x ≡ false)
    apart = or_parts (same_lit y x) (has c x) n

    by_case : (1 ≤ open_in t c → has c x ≡ false → Left t c x) → (b : Bool) → negated t y ≡ b → 1 ≤ cond b (open_in t c) (1 + open_in t c) → Left t (y ∷ c) x
    by_case ih true e h = let r = ih h apart.1 in record { lit = r.lit; held = or_right (same_lit y r.lit) (has c r.lit) r.held; other = r.other; still = r.still }
    by_case ih false e h = record { lit = y; held = or_left (same_lit y y) (has c y) (same_lit-refl y); other = apart.0; still = e }

-- of two open literals one isn't this one
pub open_two : (t : List Entry) (c : List Lit) (x : Lit) → distinct c ≡ true → 2 ≤ open_in t c → Left t c x
open_two t [] x d h = absurd (omega arith)
open_two t (y ∷ c) x d h = by_case (open_two t c x p.1) (negated t y) (same_lit y x) refl refl h
  where
    p : (not (has c y) ≡ true) × (distinct c ≡ true)
    p = and_parts (not (has c y)) (distinct c) d

    by_case : (2 ≤ open_in t c → Left t c x) → (b s : Bool) → negated t y ≡ b → same_lit y x ≡ s → 2 ≤ cond b (open_in t c) (1 + open_in t c) → Left t (y ∷ c) x
    by_case ih true s e f h = let r = ih h in record { lit = r.lit; held = or_right (same_lit y r.lit) (has c r.lit) r.held; other = r.other; still = r.still }
    by_case ih false false e f h = record { lit = y; held = or_left (same_lit y y) (has c y) (same_lit-refl y); other = f; still = e }
    by_case ih false true e f h =
        let q = same_lit-is y x f in
        let n : has c x ≡ false = subst (λ (z : Lit). has c z ≡ false) q (not-true (has c y) p.0) in
        let r = open_one t c x (omega arith) n in
        record { lit = r.lit; held = or_right (same_lit y r.lit) (has c r.lit) r.held; other = r.other; still = r.still }

-- two open literals keep a clause from being unit or false
pub open-quiet : (t : List Entry) (c : List Lit) → distinct c ≡ true → 2 ≤ open_in t c → quiet t c ≡ true
open-quiet t c d h = and_from (not (is_false t c)) (not (list_any (is_unit t c) c)) (not_from_false (is_false t c) (no_false (is_false t c) refl)) (not_from_false (list_any (is_unit t c) c) (no_unit (list_any (is_unit t c) c) refl))
  where
    no_false : (b : Bool) → is_false t c ≡ b → b ≡ false
    no_false true f = absurd (let z = open_zero t c f in omega arith)
    no_false false f = refl

    no_unit : (b : Bool) → list_any (is_unit t c) c ≡ b → b ≡ false
    no_unit false u = refl
    no_unit true u = absurd (
        let r = any_has (is_unit t c) c u in
        let m = and_parts (has c r.0) (others_false t c r.0 && not (is_assigned t r.0.atom)) r.2 in
        let k = and_parts (others_false t c r.0) (not (is_assigned t r.0.atom)) m.1 in
        let w = open_two t c r.0 d h in
        let s = all_has (λ x. same_lit x r.0 || negated t x) c w.lit k.0 w.held in
        let s2 = or_last (same_lit w.lit r.0) (negated t w.lit) s w.other in
        let s3 = w.still in cc)

-- at most one open literal: the others are negated
pub record Alone (t : List Entry) (c : List Lit) : Type 0 where
  pub lit : Lit
  pub held : has c lit ≡ true
  pub still : negated t lit ≡ false
  pub rest : others_false t c lit ≡ true

pub open_alone : (t : List Entry) (c : List Lit) → open_in t c ≡ 1 → Alone t c
open_alone t [] h = absurd (omega arith)
open_alone t (y ∷ c) h = by_case (open_alone t c) (negated t y) refl h
  where
    rest_others : (l : Lit) → others_false t c l ≡ true → negated t y ≡ true → others_false t (y ∷ c) l ≡ true
    rest_others l k e = and_from (same_lit y l || negated t y) (others_false t c l) (or_right (same_lit y l) (negated t y) e) k

    by_case : (open_in t c ≡ 1 → Alone t c) → (b : Bool) → negated t y ≡ b → cond b (open_in t c) (1 + open_in t c) ≡ 1 → Alone t (y ∷ c)
    by_case ih true e h = let r = ih h in record { lit = r.lit; held = or_right (same_lit y r.lit) (has c r.lit) r.held; still = r.still; rest = rest_others r.lit r.rest e }
    by_case ih false e h =
        let f = zero-open t c (omega arith) in
        record {
          lit = y;
          held = or_left (same_lit y y) (has c y) (same_lit-refl y);
          still = e;
          rest = and_from (same_lit y y || negated t y) (others_false t c y) (or_left (same_lit y y) (negated t y) (same_lit-refl y)) (has_all (λ x. same_lit x y || negated t x) c (λ l k. or_right (same_lit l y) (negated t l) (all_has (negated t) c l f k)));
        }

-- prefixes at decisions
pub is_assigned-before : (t : List Entry) (a : ℕ) → is_assigned (before_last t) a ≡ true → is_assigned t a ≡ true
is_assigned-before [] a h = h
is_assigned-before (e ∷ t) a h = by_case (is_assigned-before t a) e.reason h
  where
    by_case : (is_assigned (before_last t) a ≡ true → is_assigned t a ≡ true) → (r : Option ℕ) → is_assigned (after r t (before_last t)) a ≡ true → is_assigned (e ∷ t) a ≡ true
    by_case ih None h = or_right (e.lit.atom == a) (is_assigned t a) h
    by_case ih (Some r) h = or_right (e.lit.atom == a) (is_assigned t a) (ih h)

pub open-before : (t : List Entry) (c : List Lit) → open_in t c ≤ open_in (before_last t) c
open-before [] c = omega arith
open-before (e ∷ t) c = by_case (open-before t c) (open-more e t c) e.reason
  where
    by_case : open_in t c ≤ open_in (before_last t) c → open_in (e ∷ t) c ≤ open_in t c → (r : Option ℕ) → open_in (e ∷ t) c ≤ open_in (after r t (before_last t)) c
    by_case ih m None = m
    by_case ih m (Some r) = omega arith

-- what is negated since the last decision isn't assigned before it
pub unassigned-before : (cs : List (List Lit)) (t : List Entry) (l : Lit) → IsTrail cs t → negated t l ≡ true → negated (before_last t) l ≡ false → is_assigned (before_last t) l.atom ≡ false
unassigned-before cs [] l w h n = absurd cc
unassigned-before cs (e ∷ t) l w h n = by_case (unassigned-before cs t l w.2) e.reason n
  where
    same_atom : same_lit e.lit (flip l) ≡ true → e.lit.atom ≡ l.atom
    same_atom s = ap (λ (z : Lit). z.atom) (same_lit-is e.lit (flip l) s)

    fresh_atom : same_lit e.lit (flip l) ≡ true → is_assigned t l.atom ≡ false
    fresh_atom s = subst (λ (a : ℕ). is_assigned t a ≡ false) (same_atom s) w.0

    earlier : (b : Bool) → is_assigned (before_last t) l.atom ≡ b → is_assigned t l.atom ≡ false → b ≡ false
    earlier true e f = absurd (let k = is_assigned-before t l.atom e in cc)
    earlier false e f = refl

    by_case : (negated t l ≡ true → negated (before_last t) l ≡ false → is_assigned (before_last t) l.atom ≡ false) → (r : Option ℕ) → negated (after r t (before_last t)) l ≡ false → is_assigned (after r t (before_last t)) l.atom ≡ false
    by_case ih None n = elim (or_cases (same_lit e.lit (flip l)) (negated t l) h) [ inl s ↦ fresh_atom s | inr s ↦ absurd cc ]
    by_case ih (Some r) n = elim (or_cases (same_lit e.lit (flip l)) (negated t l) h) [ inl s ↦ earlier (is_assigned (before_last t) l.atom) refl (fresh_atom s) | inr s ↦ ih s n ]

pub trail-before : (cs : List (List Lit)) (t : List Entry) → IsTrail cs t → IsTrail cs (before_last t)
trail-before cs [] w = w
trail-before cs (e ∷ t) w = by_case (trail-before cs t w.2) e.reason
  where
    by_case : IsTrail cs (before_last t) → (r : Option ℕ) → IsTrail cs (after r t (before_last t))
    by_case ih None = w.2
    by_case ih (Some r) = ih

-- what stands before a decision is settled
pub settled-before : (cs : List (List Lit)) (t : List Entry) → IsTrail cs t → has_decision t ≡ true → Settled (before_last t) cs
settled-before cs [] w h = absurd cc
settled-before cs (e ∷ t) w h = by_case (settled-before cs t w.2) e.reason w.1 h
  where
    by_case : (has_decision t ≡ true → Settled (before_last t) cs) → (r : Option ℕ) → IsStep cs t e.lit r → (is_decision (record { lit = e.lit; reason = r }) || has_decision t) ≡ true → Settled (after r t (before_last t)) cs
    by_case ih None s h = s
    by_case ih (Some r) s h = ih h

-- a clause that is false under the trail and quiet before its last decision has two literals since then
pub starts-open : (cs : List (List Lit)) (t : List Entry) (c : List Lit) → IsTrail cs t → is_false t c ≡ true → quiet (before_last t) c ≡ true → 2 ≤ open_in (before_last t) c
starts-open cs t c w f q = by_size (open_in (before_last t) c) refl
  where
    p : (not (is_false (before_last t) c) ≡ true) × (not (list_any (is_unit (before_last t) c) c) ≡ true)
    p = and_parts (not (is_false (before_last t) c)) (not (list_any (is_unit (before_last t) c) c)) q

    there : (d : List Lit) (p : Lit → Bool) (l : Lit) → has d l ≡ true → p l ≡ true → list_any p d ≡ true
    there [] p l h k = absurd cc
    there (x ∷ d) p l h k = elim (has-cases x d l h) [ inl e ↦ or_left (p x) (list_any p d) (subst (λ (z : Lit). p z ≡ true) (sym e) k) | inr e ↦ or_right (p x) (list_any p d) (there d p l e k) ]

    by_size : (n : ℕ) → open_in (before_last t) c ≡ n → 2 ≤ n
    by_size zero e = absurd (let z = zero-open (before_last t) c e in let y = not-true (is_false (before_last t) c) p.0 in cc)
    by_size (suc zero) e = absurd (
        let a = open_alone (before_last t) c e in
        let n = all_has (negated t) c a.lit f a.held in
        let u = unassigned-before cs t a.lit w n a.still in
        let m = and_from (has c a.lit) (others_false (before_last t) c a.lit && not (is_assigned (before_last t) a.lit.atom)) a.held (and_from (others_false (before_last t) c a.lit) (not (is_assigned (before_last t) a.lit.atom)) a.rest (not_from_false (is_assigned (before_last t) a.lit.atom) u)) in
        let k = there c (is_unit (before_last t) c) a.lit a.held m in
        let y = not-true (list_any (is_unit (before_last t) c) c) p.1 in cc)
    by_size (suc (suc n)) e = omega arith

-- the literal to resolve on has a reason
pub top-reason : (e : Entry) (t : List Entry) (c : List Lit) → distinct c ≡ true → is_false (e ∷ t) c ≡ true → (has_decision (e ∷ t) ≡ true → 2 ≤ open_in (before_last (e ∷ t)) c) → (r : ℕ) × (e.reason ≡ Some r)
top-reason e t c d f h = by_case e.reason refl h
  where
    by_case : (r : Option ℕ) → e.reason ≡ r → ((is_decision (record { lit = e.lit; reason = r }) || has_decision t) ≡ true → 2 ≤ open_in (after r t (before_last t)) c) → (k : ℕ) × (r ≡ Some k)
    by_case (Some k) i h = (k, refl)
    by_case None i h = absurd (
        let w = open_two t c (flip e.lit) d (h refl) in
        let n = all_has (negated (e ∷ t)) c w.lit f w.held in
        elim (or_cases (same_lit e.lit (flip w.lit)) (negated t w.lit) n) [
          | inl s ↦ (let q = flip_back e.lit w.lit s in let r = same_lit-refl (flip e.lit) in let u : same_lit w.lit (flip e.lit) ≡ true = subst (λ (z : Lit). same_lit z (flip e.lit) ≡ true) q r in let v = w.other in absurd cc)
          | inr s ↦ (let v = w.still in absurd cc)
        ])

-- the resolvent on the newest literal is false before it
pub resolved-false : (e : Entry) (t : List Entry) (c r d : List Lit) → is_false (e ∷ t) c ≡ true → others_false t r e.lit ≡ true
    → ((x : Lit) → has d x ≡ true → ((has c x ≡ true) × (same_lit x (flip e.lit) ≡ false)) ⊎ ((has r x ≡ true) × (same_lit x e.lit ≡ false)))
    → is_false t d ≡ true
resolved-false e t c r d f u h = has_all (negated t) d one
  where
    from_cur : (x : Lit) → has c x ≡ true → same_lit x (flip e.lit) ≡ false → negated t x ≡ true
    from_cur x k n = elim (or_cases (same_lit e.lit (flip x)) (negated t x) (all_has (negated (e ∷ t)) c x f k)) [
      | inl s ↦ absurd (let q = flip_back e.lit x s in let r = same_lit-refl (flip e.lit) in let v : same_lit x (flip e.lit) ≡ true = subst (λ (z : Lit). same_lit z (flip e.lit) ≡ true) q r in cc)
      | inr s ↦ s
    ]

    from_reason : (x : Lit) → has r x ≡ true → same_lit x e.lit ≡ false → negated t x ≡ true
    from_reason x k n = or_last (same_lit x e.lit) (negated t x) (all_has (λ y. same_lit y e.lit || negated t y) r x u k) n

    one : (x : Lit) → has d x ≡ true → negated t x ≡ true
    one x k = elim (h x k) [ inl p ↦ from_cur x p.0 p.1 | inr p ↦ from_reason x p.0 p.1 ]

-- one literal since the last decision stays
pub resolved-open : (e : Entry) (t : List Entry) (c d : List Lit) (p : List Entry) → distinct c ≡ true → 2 ≤ open_in p c
    → ((x : Lit) → has c x ≡ true → same_lit x (flip e.lit) ≡ false → has d x ≡ true) → is_false p d ≡ false
resolved-open e t c d p n h k = by_case (is_false p d) refl
  where
    by_case : (b : Bool) → is_false p d ≡ b → b ≡ false
    by_case false f = refl
    by_case true f = absurd (let w = open_two p c (flip e.lit) n h in let q = all_has (negated p) d w.lit f (k w.lit w.held w.other) in let v = w.still in cc)

-- freshness: nothing within a false clause is open
pub within-false : (t : List Entry) (d c : List Lit) → is_false t c ≡ true → is_false t d ≡ false → sub d c ≡ false
within-false t d c f n = by_case (sub d c) refl
  where
    by_case : (b : Bool) → sub d c ≡ b → b ≡ false
    by_case false s = refl
    by_case true s = absurd (let m = has_all (negated t) d (λ l k. all_has (negated t) c l f (all_has (has c) d l s k)) in cc)

-- no atom is in a trail both ways
pub one-way : (cs : List (List Lit)) (t : List Entry) (l : Lit) → IsTrail cs t → in_trail t l ≡ true → in_trail t (flip l) ≡ false
one-way cs [] l w h = absurd cc
one-way cs (e ∷ t) l w h = by_case (one-way cs t l w.2) (in_trail (e ∷ t) (flip l)) refl
  where
    by_case : (in_trail t l ≡ true → in_trail t (flip l) ≡ false) → (b : Bool) → in_trail (e ∷ t) (flip l) ≡ b → b ≡ false
    by_case ih false k = refl
    by_case ih true k = absurd (
        elim (or_cases (same_lit e.lit l) (in_trail t l) h) [
          | inl s ↦ elim (or_cases (same_lit e.lit (flip l)) (in_trail t (flip l)) k) [
            | inl u ↦ (let x = same_lit-is e.lit l s in let y = same_lit-is e.lit (flip l) u in let z = flip-apart l in let v = same_lit-refl l in let m : same_lit l (flip l) ≡ true = subst (λ (q : Lit). same_lit l q ≡ true) (sym x ∙ y) v in absurd cc)
            | inr u ↦ (let x = same_lit-is e.lit l s in let n = in_assigned t (flip l) u in let m : is_assigned t l.atom ≡ false = subst (λ (q : Lit). is_assigned t q.atom ≡ false) x w.0 in absurd cc)
          ]
          | inr s ↦ elim (or_cases (same_lit e.lit (flip l)) (in_trail t (flip l)) k) [
            | inl u ↦ (let y = same_lit-is e.lit (flip l) u in let n = in_assigned t l s in let m : is_assigned t l.atom ≡ false = subst (λ (q : Lit). is_assigned t q.atom ≡ false) y w.0 in absurd cc)
            | inr u ↦ (let m = ih s in absurd cc)
          ]
        ])

-- a false clause holds no atom both ways
pub false-one_way : (cs : List (List Lit)) (t : List Entry) (c : List Lit) (l : Lit) → IsTrail cs t → is_false t c ≡ true → has c l ≡ true → has c (flip l) ≡ false
false-one_way cs t c l w f h = by_case (has c (flip l)) refl
  where
    by_case : (b : Bool) → has c (flip l) ≡ b → b ≡ false
    by_case false k = refl
    by_case true k = absurd (
        let p = all_has (negated t) c l f h in
        let q = all_has (negated t) c (flip l) f k in
        let n = one-way cs t (flip l) w p in cc)

pub open_count : (t : List Entry) (c : List Lit) → open_in t c ≡ count_by (λ l. not (negated t l)) c
open_count t c = is_count_by (open_in t) (λ l. not (negated t l)) refl (λ x xs. swap (negated t x) (open_in t xs)) c
  where
    swap : (b : Bool) (n : ℕ) → cond b n (1 + n) ≡ cond (not b) (1 + n) n
    swap true n = refl
    swap false n = refl
