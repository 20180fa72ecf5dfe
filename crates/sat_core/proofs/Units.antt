use Rattle.std.proofs.Common.{◌≡◌, Bool, true, false, not, ◌&&◌, ◌||◌, List, refl, sym, subst, arith, ℕ, zero, suc, ◌<◌, length, get_or, [], ◌∷◌, ◌≤◌, take, ap}
use Rattle.std.specs.List.{list_any}
use Rattle.proof_lines.specs.declared.clause.Lit.{Lit}
use Rattle.proof_lines.specs.Clauses.{has, same_lit, flip}
use Rattle.std.proofs.lemmas.Bool.{and_parts, or_left, or_right, false_from_ne_true, not-true}
use Rattle.proof_lines.proofs.Sets.{same_lit-is, same_lit-refl}
use Rattle.sat_core.specs.declared.trail.Entry.{Entry}
use Rattle.sat_core.specs.Trails.{negated, is_assigned, is_false, others_false, is_unit}
use Rattle.sat_core.proofs.Trails.{any_has, all_has, in_assigned}

-- Which literal may make a clause unit.

-- a literal that makes a clause unit isn't negated
unit-open : (t : List Entry) (c : List Lit) (l : Lit) → is_unit t c l ≡ true → negated t l ≡ true → ⊥
unit-open t c l u n = absurd (
    let p = and_parts (has c l) (others_false t c l && not (is_assigned t l.atom)) u in
    let q = and_parts (others_false t c l) (not (is_assigned t l.atom)) p.1 in
    let m = in_assigned t (flip l) n in
    let k = not-true (is_assigned t l.atom) q.1 in cc)

none_open : (t : List Entry) (c : List Lit) → is_false t c ≡ true → list_any (is_unit t c) c ≡ false
none_open t c f = false_from_ne_true (list_any (is_unit t c) c) (λ h. (let r = any_has (is_unit t c) c h in unit-open t c r.0 r.2 (all_has (negated t) c r.0 f r.1)))

first_open : (t : List Entry) (c : List Lit) (l : Lit) → has c l ≡ true → negated t l ≡ false → is_unit t c l ≡ false → list_any (is_unit t c) c ≡ false
first_open t c l h n u = false_from_ne_true (list_any (is_unit t c) c) (λ k. (let r = any_has (is_unit t c) c k in by_case r.0 r.2 (same_lit l r.0) refl))
  where
    or_last : (a b : Bool) → (a || b) ≡ true → a ≡ false → b ≡ true
    or_last a b p q = grind arith

    by_case : (x : Lit) → is_unit t c x ≡ true → (b : Bool) → same_lit l x ≡ b → ⊥
    by_case x v true e = absurd (let w : is_unit t c l ≡ true = subst (λ (z : Lit). is_unit t c z ≡ true) (sym (same_lit-is l x e)) v in cc)
    by_case x v false e = absurd (
        let p = and_parts (has c x) (others_false t c x && not (is_assigned t x.atom)) v in
        let q = and_parts (others_false t c x) (not (is_assigned t x.atom)) p.1 in
        let s = all_has (λ y. same_lit y x || negated t y) c l q.0 h in
        let m = or_last (same_lit l x) (negated t l) s e in cc)

has-at : (c : List Lit) (i : ℕ) (d : Lit) → i < length c → has c (get_or c i d) ≡ true
has-at [] i d h = absurd (omega arith)
has-at (l ∷ c) zero d h = or_left (same_lit l l) (has c l) (same_lit-refl l)
has-at (l ∷ c) (suc i) d h = or_right (same_lit l (get_or c i d)) (has c (get_or c i d)) (has-at c i d (omega arith))

pub first_open-at : (t : List Entry) (c : List Lit) (i : ℕ) (d : Lit) → i < length c → negated t (get_or c i d) ≡ false → is_unit t c (get_or c i d) ≡ false → list_any (is_unit t c) c ≡ false
first_open-at t c i d h n u = first_open t c (get_or c i d) (has-at c i d h) n u

take-past : (c : List Lit) (i : ℕ) → length c ≤ i → take i c ≡ c
take-past [] zero h = refl
take-past [] (suc i) h = refl
take-past (l ∷ c) zero h = absurd (omega arith)
take-past (l ∷ c) (suc i) h = ap (λ (z : List Lit). l ∷ z) (take-past c i (omega arith))

pub none_open-at : (t : List Entry) (c : List Lit) (i : ℕ) → length c ≤ i → is_false t (take i c) ≡ true → list_any (is_unit t c) c ≡ false
none_open-at t c i h f = none_open t c (subst (λ (z : List Lit). is_false t z ≡ true) (take-past c i h) f)
