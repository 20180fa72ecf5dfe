use Rattle.std.proofs.Common.{◌≡◌, ℕ, zero, suc, ◌<◌, Bool, true, false, not, ◌&&◌, ◌||◌, ◌==◌, ◌⊎◌, inl, inr, List, [], ◌∷◌, length, get_or, refl, sym, subst, arith, Option, Some, None}
use Rattle.std.specs.List.{list_any}
use Rattle.proof_lines.specs.declared.clause.Lit.{Lit}
use Rattle.proof_lines.specs.Clauses.{has, same_lit, flip, lit_of, is_empty}
use Rattle.proof_lines.specs.Forced.{Forced, by_clause}
use Rattle.std.proofs.lemmas.Bool.{and_parts, or_cases, or_left, or_right, eqb-true, and_from, not-true, not_from_false}
use Rattle.proof_lines.proofs.Sets.{same_lit-is, same_lit-refl}
use Rattle.sat_core.specs.declared.trail.Entry.{Entry}
use Rattle.sat_core.specs.Trails.{in_trail, negated, is_assigned, is_false, is_unit, quiet, others_false, has_decision, before_last, after, Settled, NoneFalse, IsTrail}
use Rattle.sat_core.specs.Forcing.{AreRefuted, AreSatisfied}
use Rattle.sat_core.proofs.Trails.{has_all, all_has, one-way, settled-before}

-- what forced literals say of a trail

any_there : (p : Lit → Bool) (c : List Lit) (l : Lit) → has c l ≡ true → p l ≡ true → list_any p c ≡ true
any_there p [] l h k = absurd cc
any_there p (x ∷ c) l h k = elim (or_cases (same_lit x l) (has c l) h) [
  | inl e ↦ or_left (p x) (list_any p c) (subst (λ (z : Lit). p z ≡ true) (sym (same_lit-is x l e)) k)
  | inr e ↦ or_right (p x) (list_any p c) (any_there p c l e k)
]

pub assigned_one : (t : List Entry) (a : ℕ) → is_assigned t a ≡ true → (in_trail t (lit_of a true) ≡ true) ⊎ (in_trail t (lit_of a false) ≡ true)
assigned_one [] a h = absurd cc
assigned_one (e ∷ t) a h = elim (or_cases (e.lit.atom == a) (is_assigned t a) h) [
  | inl q ↦ at_top e.lit.positive refl (eqb-true e.lit.atom a q)
  | inr q ↦ elim (assigned_one t a q) [ inl r ↦ inl (or_right (same_lit e.lit (lit_of a true)) (in_trail t (lit_of a true)) r) | inr r ↦ inr (or_right (same_lit e.lit (lit_of a false)) (in_trail t (lit_of a false)) r) ]
]
  where
    is_it : (b : Bool) → e.lit.positive ≡ b → e.lit.atom ≡ a → same_lit e.lit (lit_of a b) ≡ true
    is_it b p q = let r = same_lit-refl e.lit in subst (λ (l : Lit). same_lit e.lit l ≡ true) (λ i. lit_of (q i) (p i)) r

    at_top : (b : Bool) → e.lit.positive ≡ b → e.lit.atom ≡ a → (in_trail (e ∷ t) (lit_of a true) ≡ true) ⊎ (in_trail (e ∷ t) (lit_of a false) ≡ true)
    at_top true p q = inl (or_left (same_lit e.lit (lit_of a true)) (in_trail t (lit_of a true)) (is_it true p q))
    at_top false p q = inr (or_left (same_lit e.lit (lit_of a false)) (in_trail t (lit_of a false)) (is_it false p q))

forced_here : (t : List Entry) (c : List Lit) (l : Lit) → has c l ≡ true → others_false t c l ≡ true → quiet t c ≡ true → is_false t c ≡ false → in_trail t l ≡ true
forced_here t c l h o q f = by_case (negated t l) (is_assigned t l.atom) refl refl
  where
    or_last : (a b : Bool) → (a || b) ≡ true → a ≡ false → b ≡ true
    or_last a b p q = grind arith

    signs : (a : ℕ) (p : Bool) → negated t (lit_of a p) ≡ false → (in_trail t (lit_of a true) ≡ true) ⊎ (in_trail t (lit_of a false) ≡ true) → in_trail t (lit_of a p) ≡ true
    signs a true n (inl m) = m
    signs a true n (inr m) = absurd cc
    signs a false n (inl m) = absurd cc
    signs a false n (inr m) = m

    by_case : (a b : Bool) → negated t l ≡ a → is_assigned t l.atom ≡ b → in_trail t l ≡ true
    by_case true b p r = absurd (let m = has_all (negated t) c (λ x k. each x k (same_lit x l) refl) in cc)
      where
        each : (x : Lit) → has c x ≡ true → (d : Bool) → same_lit x l ≡ d → negated t x ≡ true
        each x k true e = subst (λ (z : Lit). negated t z ≡ true) (sym (same_lit-is x l e)) p
        each x k false e = or_last (same_lit x l) (negated t x) (all_has (λ y. same_lit y l || negated t y) c x o k) e
    by_case false false p r = absurd (
        let u = and_from (has c l) (others_false t c l && not (is_assigned t l.atom)) h (and_from (others_false t c l) (not (is_assigned t l.atom)) o (not_from_false (is_assigned t l.atom) r)) in
        let m = any_there (is_unit t c) c l h u in
        let v = not-true (list_any (is_unit t c) c) (and_parts (not (is_false t c)) (not (list_any (is_unit t c) c)) q).1 in cc)
    by_case false true p r = signs l.atom l.positive p (assigned_one t l.atom r)

-- a settled trail holds what is forced
settled_forced : (cs : List (List Lit)) (t : List Entry) (l : Lit) → Forced cs l → Settled t cs → NoneFalse t cs → in_trail t l ≡ true
settled_forced cs t l (by_clause i b m h f) w n = forced_here t (get_or cs i []) l h (has_all (λ x. same_lit x l || negated t x) (get_or cs i []) (λ x k. each x k (λ e. settled_forced cs t (flip x) (f x k e) w n) (same_lit x l) refl)) (w i b) (n i b)
  where
    each : (x : Lit) → has (get_or cs i []) x ≡ true → (same_lit x l ≡ false → negated t x ≡ true) → (b : Bool) → same_lit x l ≡ b → (b || negated t x) ≡ true
    each x k g true e = refl
    each x k g false e = g e

pub refuted_none : (cs : List (List Lit)) (t : List Entry) → AreRefuted cs → Settled t cs → NoneFalse t cs → ⊥
refuted_none cs t r w n =
    let f = has_all (negated t) (get_or cs r.0 []) (λ l k. settled_forced cs t (flip l) (r.2 l k) w n) in
    let g = n r.0 r.1 in absurd cc

pub unit_forced : (cs : List (List Lit)) (t : List Entry) (r : ℕ) (l : Lit) → r < length cs → is_unit t (get_or cs r []) l ≡ true → ((k : Lit) → in_trail t k ≡ true → Forced cs k) → Forced cs l
unit_forced cs t r l b u f =
    let p = and_parts (has (get_or cs r []) l) _ u in
    let q = and_parts (others_false t (get_or cs r []) l) _ p.1 in
    by_clause r b l p.0 (λ k h n. f (flip k) (or_last (same_lit k l) (negated t k) (all_has (λ y. same_lit y l || negated t y) (get_or cs r []) k q.0 h) n))
  where
    or_last : (a b : Bool) → (a || b) ≡ true → a ≡ false → b ≡ true
    or_last a b p q = grind arith

in-before : (t : List Entry) (l : Lit) → in_trail (before_last t) l ≡ true → in_trail t l ≡ true
in-before [] l h = h
in-before (e ∷ t) l h = by_case (in-before t l) e.reason h
  where
    by_case : (in_trail (before_last t) l ≡ true → in_trail t l ≡ true) → (r : Option ℕ) → in_trail (after r t (before_last t)) l ≡ true → in_trail (e ∷ t) l ≡ true
    by_case ih None h = or_right (same_lit e.lit l) (in_trail t l) h
    by_case ih (Some r) h = or_right (same_lit e.lit l) (in_trail t l) (ih h)

-- where each clause holds a forced literal there is no conflict
pub conflict_free : (cs : List (List Lit)) (t : List Entry) (i : ℕ) → IsTrail cs t → AreSatisfied cs → (has_decision t ≡ false → (l : Lit) → in_trail t l ≡ true → Forced cs l) → i < length cs → is_false t (get_or cs i []) ≡ true → ⊥
conflict_free cs t i w s f b n = by_case (has_decision t) refl
  where
    none_of : (u : List Entry) → Settled u cs → NoneFalse u cs
    none_of u g = λ k l. not-true (is_false u (get_or cs k [])) (and_parts (not (is_false u (get_or cs k []))) _ (g k l)).0

    by_case : (d : Bool) → has_decision t ≡ d → ⊥
    by_case false d = s.0 (i, b, λ l h. f d (flip l) (all_has (negated t) (get_or cs i []) l n h))
    by_case true d = absurd (
        let r = s.1 i b in
        let g = settled-before cs t w d in
        let m = in-before t r.0 (settled_forced cs (before_last t) r.0 r.2 g (none_of (before_last t) g)) in
        let v = one-way cs t r.0 w m in
        let u = all_has (negated t) (get_or cs i []) r.0 n r.1 in cc)

pub empty_unsat : (cs : List (List Lit)) → list_any is_empty cs ≡ true → AreSatisfied cs → ⊥
empty_unsat cs h s = let r = find_empty cs h in s.0 (r.0, r.1, λ l k. absurd (none r.0 l k r.2))
  where
    find_empty : (cs : List (List Lit)) → list_any is_empty cs ≡ true → (i : ℕ) × (i < length cs) × (is_empty (get_or cs i []) ≡ true)
    find_empty [] h = absurd cc
    find_empty (c ∷ cs) h = elim (or_cases (is_empty c) (list_any is_empty cs) h) [ inl e ↦ (zero, omega arith, e) | inr e ↦ (let r = find_empty cs e in (suc r.0, (let q = r.1 in omega arith), r.2)) ]

    nothing : (c : List Lit) (l : Lit) → has c l ≡ true → is_empty c ≡ true → ⊥
    nothing [] l h e = absurd cc
    nothing (x ∷ c) l h e = absurd cc

    none : (i : ℕ) (l : Lit) → has (get_or cs i []) l ≡ true → is_empty (get_or cs i []) ≡ true → ⊥
    none i l h e = nothing (get_or cs i []) l h e

-- a forced literal
pub unit_parts : (t : List Entry) (c : List Lit) (l : Lit) → is_unit t c l ≡ true → (has c l ≡ true) × (is_assigned t l.atom ≡ false)
unit_parts t c l h = let p = and_parts (has c l) _ h in let q = and_parts _ (not (is_assigned t l.atom)) p.1 in (p.0, not-true (is_assigned t l.atom) q.1)

pub some_open : (t : List Entry) (c : List Lit) → is_false t c ≡ false → (l : Lit) × (has c l ≡ true) × (negated t l ≡ false)
some_open t [] h = absurd cc
some_open t (x ∷ c) h = by_case (negated t x) refl h (some_open t c)
  where
    by_case : (b : Bool) → negated t x ≡ b → (b && is_false t c) ≡ false → (is_false t c ≡ false → (l : Lit) × (has c l ≡ true) × (negated t l ≡ false)) → (l : Lit) × (has (x ∷ c) l ≡ true) × (negated t l ≡ false)
    by_case false p h f = (x, or_left (same_lit x x) (has c x) (same_lit-refl x), p)
    by_case true p h f = let r = f h in (r.0, or_right (same_lit x r.0) (has c r.0) r.1, r.2)
