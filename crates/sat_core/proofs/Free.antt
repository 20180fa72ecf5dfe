use Rattle.std.proofs.Common.{◌≡◌, ℕ, zero, suc, ◌+◌, ◌<◌, ◌≤◌, Bool, true, false, cond, ◌||◌, ◌==◌, List, [], ◌∷◌, length, refl, subst, arith}
use Rattle.std.proofs.lemmas.Bool.Decides.{nat_tests}
use Rattle.proof_lines.specs.declared.clause.Lit.{Lit}
use Rattle.std.proofs.lemmas.Bool.{or_left, or_right, eqb-true}
use Rattle.proof_lines.proofs.Sets.{same_nat-refl}
use Rattle.sat_core.specs.declared.trail.Entry.{Entry}
use Rattle.sat_core.specs.Trails.{is_assigned, IsTrail, free}

-- how many atoms a trail leaves

pub free-top : (n : ℕ) (t : List Entry) → free n t ≤ n
free-top zero t = omega arith
free-top (suc n) t = by_case (is_assigned t n) (free-top n t)
  where
    by_case : (b : Bool) → free n t ≤ n → cond b (free n t) (1 + free n t) ≤ suc n
    by_case true h = omega arith
    by_case false h = omega arith

free-more : (n : ℕ) (e : Entry) (t : List Entry) → free n (e ∷ t) ≤ free n t
free-more zero e t = omega arith
free-more (suc n) e t = by_case (e.lit.atom == n) (is_assigned t n) (free-more n e t)
  where
    by_case : (a b : Bool) → free n (e ∷ t) ≤ free n t → cond (a || b) (free n (e ∷ t)) (1 + free n (e ∷ t)) ≤ cond b (free n t) (1 + free n t)
    by_case true true h = h
    by_case true false h = omega arith
    by_case false true h = h
    by_case false false h = omega arith

pub free-falls : (n : ℕ) (e : Entry) (t : List Entry) → e.lit.atom < n → is_assigned t e.lit.atom ≡ false → free n (e ∷ t) < free n t
free-falls zero e t l h = absurd (omega arith)
free-falls (suc n) e t l h = by_case (e.lit.atom == n) (is_assigned t n) refl refl (free-more n e t) (λ k. free-falls n e t k h)
  where
    other : (a b : ℕ) → (a == b) ≡ false → a < suc b → a < b
    other a b h k = grind (arith, nat_tests)

    by_case : (a b : Bool) → (e.lit.atom == n) ≡ a → is_assigned t n ≡ b → free n (e ∷ t) ≤ free n t → (e.lit.atom < n → free n (e ∷ t) < free n t) → cond (a || b) (free n (e ∷ t)) (1 + free n (e ∷ t)) < cond b (free n t) (1 + free n t)
    by_case true false p q m f = omega arith
    by_case true true p q m f = absurd (let s = eqb-true e.lit.atom n p in let r : is_assigned t n ≡ false = subst (λ (a : ℕ). is_assigned t a ≡ false) s h in cc)
    by_case false true p q m f = f (other e.lit.atom n p l)
    by_case false false p q m f = let r = f (other e.lit.atom n p l) in omega arith

-- a trail has no more literals than there are atoms
pub trail_short : (n : ℕ) (cs : List (List Lit)) (t : List Entry) → IsTrail cs t → ((a : ℕ) → is_assigned t a ≡ true → a < n) → length t + free n t ≤ n
trail_short n cs [] w b = let h = free-top n [] in omega arith
trail_short n cs (e ∷ t) w b =
    let ih = trail_short n cs t w.2 (λ a h. b a (or_right (e.lit.atom == a) (is_assigned t a) h)) in
    let f = free-falls n e t (b e.lit.atom (or_left (e.lit.atom == e.lit.atom) (is_assigned t e.lit.atom) (same_nat-refl e.lit.atom))) w.0 in omega arith
