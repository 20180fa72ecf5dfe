use Rattle.std.proofs.Common.{◌≡◌, ℕ, zero, suc, ◌+◌, ◌*◌, ◌^◌, ◌<◌, ◌≤◌, Bool, true, false, cond, ◌==◌, ◌⊎◌, inl, inr, List, [], ◌∷◌, length, get_or, refl, sym, subst, arith, None}
use Rattle.proof_lines.specs.declared.clause.Lit.{Lit}
use Rattle.proof_lines.specs.Clauses.{has, sub, flip, lit_of}
use Rattle.std.proofs.lemmas.Bool.{or_cases, eqb-true}
use Rattle.sat_core.specs.declared.trail.Entry.{Entry}
use Rattle.sat_core.specs.Trails.{is_assigned, free}
use Rattle.sat_core.specs.Fresh.{IsFresh}
use Rattle.sat_core.proofs.Trails.{has_all}
use Rattle.sat_core.proofs.Free.{free-top, free-falls}

-- whether a clause holds an atom, and which way
abbrev pub digit : List Lit → ℕ → ℕ
digit c a = cond (has c (lit_of a true)) 1 (cond (has c (lit_of a false)) 2 0)

digit_below : (c : List Lit) (a : ℕ) → digit c a < 3
digit_below c a = by_case (has c (lit_of a true)) (has c (lit_of a false))
  where
    by_case : (p q : Bool) → cond p 1 (cond q 2 0) < 3
    by_case true q = omega arith
    by_case false true = omega arith
    by_case false false = omega arith

-- a clause without an atom both ways as a number
abbrev pub number : ℕ → List Lit → ℕ
number zero c = 0
number (suc n) c = 3 * number n c + digit c n

pub number_below : (n : ℕ) (c : List Lit) → number n c < 3 ^ n
number_below zero c = omega arith
number_below (suc n) c = let h = number_below n c in let d = digit_below c n in let e : 3 ^ (suc n) ≡ 3 * 3 ^ n = grind arith in omega arith

same_digits : (n : ℕ) (c d : List Lit) → number n c ≡ number n d → (a : ℕ) → a < n → digit c a ≡ digit d a
same_digits zero c d h a l = absurd (omega arith)
same_digits (suc n) c d h a l = by_place (same_digits n c d parts.0 a) (last a n l)
  where
    last : (a n : ℕ) → a < suc n → (a < n) ⊎ (a ≡ n)
    last a n h = grind arith

    split : (x y p q : ℕ) → p < 3 → q < 3 → 3 * x + p ≡ 3 * y + q → (x ≡ y) × (p ≡ q)
    split x y p q a b h = (omega arith, omega arith)

    parts : (number n c ≡ number n d) × (digit c n ≡ digit d n)
    parts = split (number n c) (number n d) (digit c n) (digit d n) (digit_below c n) (digit_below d n) h

    by_place : (a < n → digit c a ≡ digit d a) → (a < n) ⊎ (a ≡ n) → digit c a ≡ digit d a
    by_place f (inl k) = f k
    by_place f (inr k) = subst (λ (z : ℕ). digit c z ≡ digit d z) (sym k) parts.1

-- clauses with the same number contain each other
same_number : (n : ℕ) (c d : List Lit) → ((l : Lit) → has c l ≡ true → l.atom < n) → ((l : Lit) → has c l ≡ true → has c (flip l) ≡ false) → number n c ≡ number n d → sub c d ≡ true
same_number n c d below one_way h = has_all (has d) c (λ l k. one l.atom l.positive k (below l k))
  where
    one : (a : ℕ) (p : Bool) → has c (lit_of a p) ≡ true → a < n → has d (lit_of a p) ≡ true
    one a true k b = first (has c (lit_of a true)) (has d (lit_of a true)) (has d (lit_of a false)) k (same_digits n c d h a b)
      where
        first : (p q r : Bool) → p ≡ true → ◌≡◌ {A = ℕ} (cond p 1 (cond (has c (lit_of a false)) 2 0)) (cond q 1 (cond r 2 0)) → q ≡ true
        first true true r k e = refl
        first true false true k e = absurd (omega arith)
        first true false false k e = absurd (omega arith)
        first false q r k e = absurd cc
    one a false k b = second (has c (lit_of a true)) (has c (lit_of a false)) (has d (lit_of a true)) (has d (lit_of a false)) (one_way (lit_of a false) k) k (same_digits n c d h a b)
      where
        second : (p q r s : Bool) → p ≡ false → q ≡ true → ◌≡◌ {A = ℕ} (cond p 1 (cond q 2 0)) (cond r 1 (cond s 2 0)) → s ≡ true
        second true q r s k l e = absurd cc
        second false false r s k l e = absurd cc
        second false true true s k l e = absurd (omega arith)
        second false true false true k l e = refl
        second false true false false k l e = absurd (omega arith)

-- as many different numbers as there are new clauses
module _ (n first : ℕ) (cs : List (List Lit)) (f : IsFresh first cs) (below : (i : ℕ) (l : Lit) → i < length cs → has (get_or cs i []) l ≡ true → l.atom < n) where
  abbrev pub numbers : ℕ → List Entry
  numbers zero = []
  numbers (suc k) = record { lit = lit_of (number n (get_or cs (first + k) [])) true; reason = None } ∷ numbers k

  was_assigned : (k a : ℕ) → is_assigned (numbers k) a ≡ true → (j : ℕ) × (j < k) × (number n (get_or cs (first + j) []) ≡ a)
  was_assigned zero a h = absurd cc
  was_assigned (suc k) a h = elim (or_cases (number n (get_or cs (first + k) []) == a) (is_assigned (numbers k) a) h) [
    | inl q ↦ (k, omega arith, eqb-true (number n (get_or cs (first + k) [])) a q)
    | inr q ↦ (let r = was_assigned k a q in (r.0, let s = r.1 in omega arith, r.2))
  ]

  is_new : (k : ℕ) → first + k < length cs → is_assigned (numbers k) (number n (get_or cs (first + k) [])) ≡ false
  is_new k l = by_case (is_assigned (numbers k) (number n (get_or cs (first + k) []))) refl
    where
      by_case : (b : Bool) → is_assigned (numbers k) (number n (get_or cs (first + k) [])) ≡ b → b ≡ false
      by_case false h = refl
      by_case true h = absurd (
          let r = was_assigned k (number n (get_or cs (first + k) [])) h in
          let lt = r.1 in
          let a : first + r.0 < length cs = omega arith in
          let s = same_number n (get_or cs (first + r.0) []) (get_or cs (first + k) []) (λ q. below (first + r.0) q a) (f.one_way (first + r.0) (omega arith) a) r.2 in
          let t = f.new (first + k) (omega arith) l (first + r.0) (omega arith) in cc)

  room_left : (k : ℕ) → first + k ≤ length cs → k + free (3 ^ n) (numbers k) ≤ 3 ^ n
  room_left zero l = let h = free-top (3 ^ n) [] in omega arith
  room_left (suc k) l =
      let h = room_left k (omega arith) in
      let g = free-falls (3 ^ n) (record { lit = lit_of (number n (get_or cs (first + k) [])) true; reason = None }) (numbers k) (number_below n (get_or cs (first + k) [])) (is_new k (omega arith)) in
      omega arith

  pub few_new : (k : ℕ) → first + k ≤ length cs → k ≤ 3 ^ n
  few_new k l = let h = room_left k l in omega arith
