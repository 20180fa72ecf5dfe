-- Literals and clauses: membership, what joins and resolvents hold, and their truth.
use Rattle.std.proofs.Common.{◌≡◌, ℕ, Bool, true, false, not, cond, ◌&&◌, ◌||◌, ◌==◌, ◌⊎◌, inl, inr, List, [], ◌∷◌, ◌++◌, refl, sym, ◌∙◌, ap, subst, arith}
use Rattle.std.proofs.lemmas.Bool.{and_parts, and_from, or_cases, or_parts, or_left, or_right, eqb-true}
use Rattle.std.proofs.lemmas.Bool.Decides.{nat_tests}
use Rattle.std.proofs.lemmas.List.Folds.{list_any-append}
use Rattle.proof_lines.specs.declared.clause.Lit.{Lit}
use Rattle.proof_lines.specs.Clauses.{same_bool, same_lit, lit_of, flip, has, distinct, insert, join, without, resolvent, lit_true, clause_true}

pub same_bool-is : (a b : Bool) → same_bool a b ≡ true → a ≡ b
same_bool-is true true h = refl
same_bool-is true false h = absurd cc
same_bool-is false true h = absurd cc
same_bool-is false false h = refl

pub same_bool-refl : (a : Bool) → same_bool a a ≡ true
same_bool-refl true = refl
same_bool-refl false = refl

pub same_nat-refl : (a : ℕ) → (a == a) ≡ true
same_nat-refl a = grind (arith, nat_tests)

-- equal literals are equal
pub same_lit-is : (a b : Lit) → same_lit a b ≡ true → a ≡ b
same_lit-is a b h =
    let p = and_parts (a.atom == b.atom) (same_bool a.positive b.positive) h in
    let n = eqb-true a.atom b.atom p.0 in
    let q = same_bool-is a.positive b.positive p.1 in
    λ i. record { atom = n i; positive = q i }

pub same_lit-refl : (a : Lit) → same_lit a a ≡ true
same_lit-refl a = grind (arith, same_nat-refl a.atom, same_bool-refl a.positive)

pub same_lit-sym : (a b : Lit) → same_lit a b ≡ same_lit b a
same_lit-sym a b = by_case (same_lit a b) (same_lit b a) refl refl
  where
    by_case : (x y : Bool) → same_lit a b ≡ x → same_lit b a ≡ y → x ≡ y
    by_case true true p q = refl
    by_case false false p q = refl
    by_case true false p q = absurd (let e = same_lit-is a b p in let r = same_lit-refl a in let s : same_lit b a ≡ true = subst (λ (z : Lit). same_lit z a ≡ true) e r in cc)
    by_case false true p q = absurd (let e = same_lit-is b a q in let r = same_lit-refl b in let s : same_lit a b ≡ true = subst (λ (z : Lit). same_lit z b ≡ true) e r in cc)

pub flip_twice : (l : Lit) → flip (flip l) ≡ l
flip_twice l = by_sign l.atom l.positive
  where
    by_sign : (a : ℕ) (p : Bool) → flip (flip (lit_of a p)) ≡ lit_of a p
    by_sign a true = refl
    by_sign a false = refl

pub flip-apart : (l : Lit) → same_lit l (flip l) ≡ false
flip-apart l = by_sign l.atom l.positive
  where
    by_sign : (a : ℕ) (p : Bool) → same_lit (lit_of a p) (flip (lit_of a p)) ≡ false
    by_sign a true = grind (arith, same_nat-refl a)
    by_sign a false = grind (arith, same_nat-refl a)

-- membership
pub has-cases : (x : Lit) (c : List Lit) (l : Lit) → has (x ∷ c) l ≡ true → (x ≡ l) ⊎ (has c l ≡ true)
has-cases x c l h = elim (or_cases (same_lit x l) (has c l) h) [ inl e ↦ inl (same_lit-is x l e) | inr e ↦ inr e ]

pub has-append : (c d : List Lit) (l : Lit) → has (c ++ d) l ≡ (has c l || has d l)
has-append c d l = list_any-append (λ x. same_lit x l) c d

pub has-without : (l : Lit) (c : List Lit) (x : Lit) → has c x ≡ true → same_lit x l ≡ false → has (without l c) x ≡ true
has-without l [] x h d = absurd cc
has-without l (y ∷ c) x h d = by_case (λ s. has-without l c x s d) (same_lit y l) refl
  where
    by_case : (has c x ≡ true → has (without l c) x ≡ true) → (b : Bool) → same_lit y l ≡ b → has (cond (not b) (y ∷ without l c) (without l c)) x ≡ true
    by_case ih true e = elim (or_cases (same_lit y x) (has c x) h) [ inl s ↦ absurd (let q = same_lit-is y x s in let r : same_lit x l ≡ true = subst (λ (z : Lit). same_lit z l ≡ true) q e in cc) | inr s ↦ ih s ]
    by_case ih false e = elim (or_cases (same_lit y x) (has c x) h) [ inl s ↦ or_left (same_lit y x) (has (without l c) x) s | inr s ↦ or_right (same_lit y x) (has (without l c) x) (ih s) ]

pub without-has : (l : Lit) (c : List Lit) (x : Lit) → has (without l c) x ≡ true → (has c x ≡ true) × (same_lit x l ≡ false)
without-has l [] x h = absurd cc
without-has l (y ∷ c) x h = by_case (without-has l c x) (same_lit y l) refl h
  where
    by_case : (has (without l c) x ≡ true → (has c x ≡ true) × (same_lit x l ≡ false)) → (b : Bool) → same_lit y l ≡ b → has (cond (not b) (y ∷ without l c) (without l c)) x ≡ true → (has (y ∷ c) x ≡ true) × (same_lit x l ≡ false)
    by_case ih true e h = let p = ih h in (or_right (same_lit y x) (has c x) p.0, p.1)
    by_case ih false e h = elim (or_cases (same_lit y x) (has (without l c) x) h) [
      | inl s ↦ (or_left (same_lit y x) (has c x) s, subst (λ (z : Lit). same_lit z l ≡ false) (same_lit-is y x s) e)
      | inr s ↦ (let p = ih s in (or_right (same_lit y x) (has c x) p.0, p.1))
    ]

pub has-insert : (c : List Lit) (l x : Lit) → has (insert c l) x ≡ (has c x || same_lit l x)
has-insert c l x = by_case (has c l) refl
  where
    same_one : (a b : Bool) → (b ≡ true → a ≡ true) → a ≡ (a || b)
    same_one true b h = refl
    same_one false true h = h refl
    same_one false false h = refl

    last_one : (a b : Bool) → (a || (b || false)) ≡ (a || b)
    last_one a b = grind arith

    by_case : (b : Bool) → has c l ≡ b → has (cond b c (c ++ l ∷ [])) x ≡ (has c x || same_lit l x)
    by_case true e = same_one (has c x) (same_lit l x) (λ s. subst (λ (z : Lit). has c z ≡ true) (same_lit-is l x s) e)
    by_case false e = has-append c (l ∷ []) x ∙ last_one (has c x) (same_lit l x)

pub has-join : (c d : List Lit) (x : Lit) → has (join c d) x ≡ (has c x || has d x)
has-join c [] x = or_none (has c x)
  where
    or_none : (a : Bool) → a ≡ (a || false)
    or_none a = grind arith
has-join c (l ∷ d) x = has-join (insert c l) d x ∙ ap (λ b. b || has d x) (has-insert c l x) ∙ or_assoc (has c x) (same_lit l x) (has d x)
  where
    or_assoc : (a b e : Bool) → ((a || b) || e) ≡ (a || (b || e))
    or_assoc a b e = grind arith

pub distinct-without : (l : Lit) (c : List Lit) → distinct c ≡ true → distinct (without l c) ≡ true
distinct-without l [] h = refl
distinct-without l (y ∷ c) h = by_case (distinct-without l c) (same_lit y l) refl
  where
    parts : (not (has c y) ≡ true) × (distinct c ≡ true)
    parts = and_parts (not (has c y)) (distinct c) h

    absent : (b : Bool) → has (without l c) y ≡ b → not b ≡ true
    absent true e = absurd (let p = without-has l c y e in let q = parts.0 in not_both (has c y) p.0 q)
      where
        not_both : (b : Bool) → b ≡ true → not b ≡ true → ⊥
        not_both b p q = absurd (grind arith)
    absent false e = refl

    by_case : (distinct c ≡ true → distinct (without l c) ≡ true) → (b : Bool) → same_lit y l ≡ b → distinct (cond (not b) (y ∷ without l c) (without l c)) ≡ true
    by_case ih true e = ih parts.1
    by_case ih false e = and_from (not (has (without l c) y)) (distinct (without l c)) (absent (has (without l c) y) refl) (ih parts.1)

pub distinct-push : (c : List Lit) (l : Lit) → distinct c ≡ true → has c l ≡ false → distinct (c ++ l ∷ []) ≡ true
distinct-push [] l h n = refl
distinct-push (x ∷ c) l h n =
    let p = and_parts (not (has c x)) (distinct c) h in
    let q = or_parts (same_lit x l) (has c l) n in
    let r = distinct-push c l p.1 q.1 in
    let s = has-append c (l ∷ []) x in
    let t = same_lit-sym l x in
    join_up (has c x) (same_lit l x) (same_lit x l) (has (c ++ l ∷ []) x) (distinct (c ++ l ∷ [])) p.0 t q.0 s r
  where
    join_up : (a b b' e d : Bool) → not a ≡ true → b ≡ b' → b' ≡ false → e ≡ (a || (b || false)) → d ≡ true → (not e && d) ≡ true
    join_up a b b' e d p t q s r = grind arith

pub distinct-insert : (c : List Lit) (l : Lit) → distinct c ≡ true → distinct (insert c l) ≡ true
distinct-insert c l h = by_case (has c l) refl
  where
    by_case : (b : Bool) → has c l ≡ b → distinct (cond b c (c ++ l ∷ [])) ≡ true
    by_case true e = h
    by_case false e = distinct-push c l h e

pub distinct-join : (c d : List Lit) → distinct c ≡ true → distinct (join c d) ≡ true
distinct-join c [] h = h
distinct-join c (l ∷ d) h = distinct-join (insert c l) d (distinct-insert c l h)

pub distinct-resolvent : (a : ℕ) (c d : List Lit) → distinct c ≡ true → distinct (resolvent a c d) ≡ true
distinct-resolvent a c d h = distinct-join (without (lit_of a true) c) (without (lit_of a false) d) (distinct-without (lit_of a true) c h)

-- what a resolvent holds
pub has-resolvent : (a : ℕ) (c d : List Lit) (x : Lit) → has (resolvent a c d) x ≡ true
    → ((has c x ≡ true) × (same_lit x (lit_of a true) ≡ false)) ⊎ ((has d x ≡ true) × (same_lit x (lit_of a false) ≡ false))
has-resolvent a c d x h =
    let p = sym (has-join (without (lit_of a true) c) (without (lit_of a false) d) x) ∙ h in
    elim (or_cases (has (without (lit_of a true) c) x) (has (without (lit_of a false) d) x) p) [
      | inl e ↦ inl (without-has (lit_of a true) c x e)
      | inr e ↦ inr (without-has (lit_of a false) d x e)
    ]

pub resolvent-left : (a : ℕ) (c d : List Lit) (x : Lit) → has c x ≡ true → same_lit x (lit_of a true) ≡ false → has (resolvent a c d) x ≡ true
resolvent-left a c d x h n =
    has-join (without (lit_of a true) c) (without (lit_of a false) d) x ∙ or_left (has (without (lit_of a true) c) x) (has (without (lit_of a false) d) x) (has-without (lit_of a true) c x h n)

pub resolvent-right : (a : ℕ) (c d : List Lit) (x : Lit) → has d x ≡ true → same_lit x (lit_of a false) ≡ false → has (resolvent a c d) x ≡ true
resolvent-right a c d x h n =
    has-join (without (lit_of a true) c) (without (lit_of a false) d) x ∙ or_right (has (without (lit_of a true) c) x) (has (without (lit_of a false) d) x) (has-without (lit_of a false) d x h n)

-- truth
pub true_by : (v : ℕ → Bool) (c : List Lit) (l : Lit) → has c l ≡ true → lit_true v l ≡ true → clause_true v c ≡ true
true_by v [] l h t = absurd cc
true_by v (x ∷ c) l h t = elim (has-cases x c l h) [
  | inl e ↦ or_left (lit_true v x) (clause_true v c) (subst (λ (z : Lit). lit_true v z ≡ true) (sym e) t)
  | inr e ↦ or_right (lit_true v x) (clause_true v c) (true_by v c l e t)
]

pub by_true : (v : ℕ → Bool) (c : List Lit) → clause_true v c ≡ true → (l : Lit) × (has c l ≡ true) × (lit_true v l ≡ true)
by_true v [] h = absurd cc
by_true v (x ∷ c) h = elim (or_cases (lit_true v x) (clause_true v c) h) [
  | inl e ↦ (x, or_left (same_lit x x) (has c x) (same_lit-refl x), e)
  | inr e ↦ (let p = by_true v c e in (p.0, or_right (same_lit x p.0) (has c p.0) p.1, p.2))
]

-- a resolvent is true where both its clauses are
pub resolvent-true : (v : ℕ → Bool) (a : ℕ) (c d : List Lit) → clause_true v c ≡ true → clause_true v d ≡ true → clause_true v (resolvent a c d) ≡ true
resolvent-true v a c d p q =
    let l = by_true v c p in
    let r = by_true v d q in
    by_case l.0 r.0 (same_lit l.0 (lit_of a true)) (same_lit r.0 (lit_of a false)) refl refl l.1 l.2 r.1 r.2
  where
    clash : (b : Bool) → same_bool b true ≡ true → same_bool b false ≡ true → ⊥
    clash true p q = absurd cc
    clash false p q = absurd cc

    by_case : (l r : Lit) (b e : Bool) → same_lit l (lit_of a true) ≡ b → same_lit r (lit_of a false) ≡ e → has c l ≡ true → lit_true v l ≡ true → has d r ≡ true → lit_true v r ≡ true → clause_true v (resolvent a c d) ≡ true
    by_case l r false e s t hl tl hr tr = true_by v (resolvent a c d) l (resolvent-left a c d l hl s) tl
    by_case l r true false s t hl tl hr tr = true_by v (resolvent a c d) r (resolvent-right a c d r hr t) tr
    by_case l r true true s t hl tl hr tr =
        let x = same_lit-is l (lit_of a true) s in
        let y = same_lit-is r (lit_of a false) t in
        let u : same_bool (v a) true ≡ true = subst (λ (z : Lit). lit_true v z ≡ true) x tl in
        let w : same_bool (v a) false ≡ true = subst (λ (z : Lit). lit_true v z ≡ true) y tr in
        absurd (clash (v a) u w)
