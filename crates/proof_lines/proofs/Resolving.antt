-- What a resolvent holds of the literals of the right clause that it takes one by one.
use Rattle.std.proofs.Common.{◌≡◌, ℕ, zero, suc, ◌+◌, ◌<◌, Bool, true, false, not, cond, ◌&&◌, ◌||◌, List, [], ◌∷◌, ◌++◌, length, take, drop, get_or, append-nil, refl, sym, ◌∙◌, ap, subst, arith}
use Rattle.std.proofs.Math.Seq.{take-length}
use Rattle.std.proofs.lemmas.Bool.{and_parts, or_left, or_right}
use Rattle.std.specs.Prelude.{nat_lt}
use Rattle.std.proofs.lemmas.Bool.Decides.{nat_tests}
use Rattle.proof_lines.specs.declared.clause.Lit.{Lit}
use Rattle.proof_lines.specs.Clauses.{same_lit, flip, has, distinct, join, without}
use Rattle.proof_lines.proofs.Sets.{same_lit-is, same_lit-refl, has-join, has-without, without-has}

has-without-is : (l : Lit) (c : List Lit) (x : Lit) → has (without l c) x ≡ (not (same_lit x l) && has c x)
has-without-is l c x = by_case (has (without l c) x) (same_lit x l) (has c x) refl refl refl
  where
    by_case : (w s h : Bool) → has (without l c) x ≡ w → same_lit x l ≡ s → has c x ≡ h → w ≡ (not s && h)
    by_case true true h p q r = absurd (let e = without-has l c x p in let f = e.1 in cc)
    by_case true false true p q r = refl
    by_case true false false p q r = absurd (let e = without-has l c x p in let f = e.0 in cc)
    by_case false true h p q r = refl
    by_case false false true p q r = absurd (let e = has-without l c x r q in cc)
    by_case false false false p q r = refl

-- a list without a literal that isn't there is that list
pub without-absent : (l : Lit) (c : List Lit) → has c l ≡ false → without l c ≡ c
without-absent l [] h = refl
without-absent l (x ∷ c) h = by_case (without-absent l c) (same_lit x l) (has c l) refl refl h
  where
    by_case : (has c l ≡ false → without l c ≡ c) → (s b : Bool) → same_lit x l ≡ s → has c l ≡ b → (s || b) ≡ false → cond (not (same_lit x l)) (x ∷ without l c) (without l c) ≡ x ∷ c
    by_case ih true b e f h = absurd cc
    by_case ih false true e f h = absurd cc
    by_case ih false false e f h = ap (λ (z : Bool). cond (not z) (x ∷ without l c) (without l c)) e ∙ ap (λ (z : List Lit). x ∷ z) (ih f)

has-at : (d : List Lit) (i : ℕ) (e : Lit) → i < length d → has d (get_or d i e) ≡ true
has-at [] i e h = absurd (omega arith)
has-at (y ∷ d) zero e h = or_left (same_lit y y) (has d y) (same_lit-refl y)
has-at (y ∷ d) (suc i) e h = or_right (same_lit y (get_or d i e)) (has d (get_or d i e)) (has-at d i e (omega arith))

-- none of the literals before one of a list of different ones is that one
not-before : (d : List Lit) (i : ℕ) (e : Lit) → distinct d ≡ true → i < length d → has (take i d) (get_or d i e) ≡ false
not-before [] i e k h = absurd (omega arith)
not-before (y ∷ d) zero e k h = refl
not-before (y ∷ d) (suc i) e k h =
    let p = and_parts (not (has d y)) (distinct d) k in
    let q = not-before d i e p.1 (omega arith) in
    by_case (same_lit y (get_or d i e)) refl p.0 q
  where
    by_case : (b : Bool) → same_lit y (get_or d i e) ≡ b → not (has d y) ≡ true → has (take i d) (get_or d i e) ≡ false → (same_lit y (get_or d i e) || has (take i d) (get_or d i e)) ≡ false
    by_case true s n q = absurd (let f = same_lit-is y (get_or d i e) s in let m = has-at d i e (omega arith) in let g : has d y ≡ true = subst (λ (z : Lit). has d z ≡ true) (sym f) m in cc)
    by_case false s n q = ap (λ (b : Bool). b || has (take i d) (get_or d i e)) s ∙ q

-- a list of different literals without the one at a place is what stands before it and behind it
without-at : (l : Lit) (c : List Lit) (i : ℕ) (e : Lit) → distinct c ≡ true → i < length c → get_or c i e ≡ l
    → without l c ≡ take i c ++ drop (suc i) c
without-at l [] i e k h g = absurd (omega arith)
without-at l (x ∷ c) zero e k h g =
    let p = and_parts (not (has c x)) (distinct c) k in
    let s : same_lit x l ≡ true = subst (λ (z : Lit). same_lit x z ≡ true) g (same_lit-refl x) in
    let n : has c l ≡ false = subst (λ (z : Lit). has c z ≡ false) g (absent (has c x) p.0) in
    ap (λ (b : Bool). cond (not b) (x ∷ without l c) (without l c)) s ∙ without-absent l c n
  where
    absent : (b : Bool) → not b ≡ true → b ≡ false
    absent true h = absurd cc
    absent false h = refl
without-at l (x ∷ c) (suc i) e k h g =
    let p = and_parts (not (has c x)) (distinct c) k in
    let ih = without-at l c i e p.1 (omega arith) g in
    by_case (same_lit x l) refl p.0 ih
  where
    by_case : (b : Bool) → same_lit x l ≡ b → not (has c x) ≡ true → without l c ≡ take i c ++ drop (suc i) c
        → without l (x ∷ c) ≡ x ∷ (take i c ++ drop (suc i) c)
    by_case true s n q = absurd (let f = same_lit-is x l s in let m = has-at c i e (omega arith) in let y : has c x ≡ true = subst (λ (z : Lit). has c z ≡ true) (g ∙ sym f) m in cc)
    by_case false s n q = ap (λ (b : Bool). cond (not b) (x ∷ without l c) (without l c)) s ∙ ap (λ (z : List Lit). x ∷ z) q

-- a place at which a literal stands is below the number of literals, and it is one of them
pub found-at : (l : Lit) (c : List Lit) (i : ℕ) (e : Lit) → distinct c ≡ true → i < length c → same_lit (get_or c i e) l ≡ true
    → (nat_lt i (length c) ≡ has c l) × (without l c ≡ take i c ++ drop (i + 1) c)
found-at l c i e k h s =
    let g = same_lit-is (get_or c i e) l s in
    let m : has c l ≡ true = subst (λ (z : Lit). has c z ≡ true) g (has-at c i e h) in
    let n : nat_lt i (length c) ≡ true = grind (arith, nat_tests, h) in
    let one : i + 1 ≡ suc i = omega arith in
    (n ∙ sym m, without-at l c i e k h g ∙ ap (λ (j : ℕ). take i c ++ drop j c) (sym one))

-- the number of literals is no place of one that isn't there
pub not-found : (l : Lit) (c : List Lit) → has c l ≡ false
    → (nat_lt (length c) (length c) ≡ has c l) × (without l c ≡ take (length c) c ++ drop (length c + 1) c)
not-found l c h =
    let n : nat_lt (length c) (length c) ≡ false = grind (arith, nat_tests) in
    (n ∙ sym h, without-absent l c h ∙ sym (append-nil c) ∙ sym (λ i. take-length c i ++ drop-all c i))
  where
    drop-more : (c : List Lit) → drop (suc (length c)) c ≡ []
    drop-more [] = refl
    drop-more (x ∷ c) = drop-more c

    drop-all : (c : List Lit) → drop (length c + 1) c ≡ []
    drop-all c = let one : length c + 1 ≡ suc (length c) = omega arith in ap (λ (j : ℕ). drop j c) one ∙ drop-more c

-- a literal of the right clause is there only where the left one has it
pub has-left : (up : Lit) (c d : List Lit) (i : ℕ) (e : Lit) → distinct d ≡ true → i < length d
    → has (join (without up c) (without (flip up) (take i d))) (get_or d i e) ≡ (not (same_lit (get_or d i e) up) && has c (get_or d i e))
has-left up c d i e k h =
    has-join (without up c) (without (flip up) (take i d)) (get_or d i e)
    ∙ (λ j. has-without-is up c (get_or d i e) j || none j)
    ∙ or_none (not (same_lit (get_or d i e) up) && has c (get_or d i e))
  where
    or_none : (a : Bool) → (a || false) ≡ a
    or_none a = grind arith

    and_none : (a : Bool) → (a && false) ≡ false
    and_none a = grind arith

    none : has (without (flip up) (take i d)) (get_or d i e) ≡ false
    none = has-without-is (flip up) (take i d) (get_or d i e) ∙ ap (λ (b : Bool). not (same_lit (get_or d i e) (flip up)) && b) (not-before d i e k h) ∙ and_none (not (same_lit (get_or d i e) (flip up)))
