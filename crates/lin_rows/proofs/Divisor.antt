use Prim.Native.Nat.{◌∣◌}
use Rattle.std.proofs.Common.{◌≡◌, ℕ, zero, suc, ◌+◌, ◌%◌, ◌<◌, ◌≤◌, Bool, true, false, cond, List, [], ◌∷◌, map, length, get_or, drop, refl, sym, ◌∙◌, ap, subst, arith, add-one, drop-cons, unsigned_abs, ◌⊎◌, inl, inr}
use Rattle.std.proofs.lemmas.Bool.{cases_Bool, cases_lt, eq-eqb, eqb-true, and_from}
use Rattle.std.specs.Prelude.{nat_eq, sum}
use Rattle.std.specs.List.{list_all}
use Rattle.std.specs.Int.{IsGcd}
use Rattle.std.proofs.lemmas.Bool.Decides.{nat_tests}
use Rattle.std.proofs.lemmas.Nat.Gcd.{dvd_refl, dvd_trans, dvd-zero, le_of_dvd, mod-eq-zero_of_dvd, dvd_of_mod-eq-zero}
use Rattle.std.proofs.lemmas.List.Sums.{sum_by-cons}
use Rattle.std.proofs.Math.Nat.{mod-one, eq-zero_of_zero-dvd}
use Rattle.lin_rows.specs.declared.term.RowTerm.{RowTerm}
use Rattle.lin_rows.specs.Divisors.{greatest, common_divisor, divisor_of}
use Rattle.lin_rows.proofs.Steps.{nothing_left}
use Rattle.lin_rows.proofs.Kept.{first_of_both, second_of_both}

-- a number divides all of a list
abbrev pub DividesAll : ℕ → List ℕ → Type 0
DividesAll d [] = Unit {0}
DividesAll d (n ∷ ns) = (d ∣ n) × DividesAll d ns

abbrev pub divides_all : ℕ → List ℕ → Bool
divides_all d ns = list_all (λ n. nat_eq (n % d) 0) ns

pub DividesAll-from : (d : ℕ) (ns : List ℕ) → divides_all d ns ≡ true → DividesAll d ns
DividesAll-from d [] h = tt
DividesAll-from d (n ∷ ns) h = (
  dvd_of_mod-eq-zero d (eqb-true (n % d) 0 (first_of_both (nat_eq (n % d) 0) (divides_all d ns) h)),
  DividesAll-from d ns (second_of_both (nat_eq (n % d) 0) (divides_all d ns) h),
)

pub DividesAll-to : (d : ℕ) (ns : List ℕ) → DividesAll d ns → divides_all d ns ≡ true
DividesAll-to d [] h = refl
DividesAll-to d (n ∷ ns) h = and_from (nat_eq (n % d) 0) (divides_all d ns) (eq-eqb (n % d) 0 (mod-eq-zero_of_dvd d h.0)) (DividesAll-to d ns h.1)

-- what a search from above finds
greatest-is : (test : ℕ → Bool) (n g : ℕ) → (g ≡ 0) ⊎ ((g ≤ n) × (test g ≡ true)) → ((d : ℕ) → g < d → d ≤ n → test d ≡ false) → greatest test n ≡ g
greatest-is test zero g (inl h) k = sym h
greatest-is test zero g (inr h) k = omega (arith, h.0)
greatest-is test (suc n) g h k = by_top (cases_Bool (test (suc n))) (order g (suc n)) (λ b. greatest-is test n g b (λ d l m. k d l (omega arith)))
  where
    order : (a b : ℕ) → (a < b) ⊎ ((a ≡ b) ⊎ (b < a))
    order a b = grind arith

    below : g < suc n → (g ≡ 0) ⊎ ((g ≤ n) × (test g ≡ true))
    below l = elim h [ inl z ↦ inl z | inr p ↦ inr (omega arith, p.1) ]

    not_above : suc n < g → ⊥
    not_above l = elim h [ inl z ↦ omega arith | inr p ↦ omega (arith, p.0) ]

    passes : g ≡ suc n → test (suc n) ≡ true
    passes e = elim h [ inl z ↦ absurd (omega arith) | inr p ↦ subst (λ (z : ℕ). test z ≡ true) e p.1 ]

    by_top : (test (suc n) ≡ true) ⊎ (test (suc n) ≡ false) → (g < suc n) ⊎ ((g ≡ suc n) ⊎ (suc n < g))
        → ((g ≡ 0) ⊎ ((g ≤ n) × (test g ≡ true)) → greatest test n ≡ g) → greatest test (suc n) ≡ g
    by_top (inl t) (inl l) f = let q = k (suc n) l (omega arith) in absurd cc
    by_top (inl t) (inr (inl e)) f = ap (λ (z : Bool). cond z (suc n) (greatest test n)) t ∙ sym e
    by_top (inl t) (inr (inr l)) f = absurd (not_above l)
    by_top (inr t) (inl l) f = ap (λ (z : Bool). cond z (suc n) (greatest test n)) t ∙ f (below l)
    by_top (inr t) (inr (inl e)) f = let q = passes e in absurd cc
    by_top (inr t) (inr (inr l)) f = absurd (not_above l)

greatest-passes : (test : ℕ → Bool) (n : ℕ) → test 1 ≡ true → 0 < n → (0 < greatest test n) × (test (greatest test n) ≡ true)
greatest-passes test zero h k = absurd (omega arith)
greatest-passes test (suc zero) h k = subst (λ (z : ℕ). (0 < z) × (test z ≡ true)) (sym (ap (λ (z : Bool). cond z 1 0) h)) (omega arith, h)
greatest-passes test (suc (suc n)) h k = by_top (cases_Bool (test (suc (suc n)))) (greatest-passes test (suc n) h (omega arith))
  where
    by_top : (test (suc (suc n)) ≡ true) ⊎ (test (suc (suc n)) ≡ false) → (0 < greatest test (suc n)) × (test (greatest test (suc n)) ≡ true)
        → (0 < greatest test (suc (suc n))) × (test (greatest test (suc (suc n))) ≡ true)
    by_top (inl t) f = subst (λ (z : ℕ). (0 < z) × (test z ≡ true)) (sym (ap (λ (z : Bool). cond z (suc (suc n)) (greatest test (suc n))) t)) (omega arith, t)
    by_top (inr t) f = subst (λ (z : ℕ). (0 < z) × (test z ≡ true)) (sym (ap (λ (z : Bool). cond z (suc (suc n)) (greatest test (suc n))) t)) f

sum-cons : (n : ℕ) (ns : List ℕ) → sum (n ∷ ns) ≡ n + sum ns
sum-cons n ns = sum_by-cons (λ x. x) n ns

-- every number divides zeros
zeros : (d : ℕ) (ns : List ℕ) → sum ns ≡ 0 → DividesAll d ns
zeros d [] h = tt
zeros d (n ∷ ns) h = let s = sum-cons n ns in let e : 0 ≡ n = omega arith in (subst (λ (z : ℕ). d ∣ z) e (dvd-zero d), zeros d ns (omega arith))

-- zero divides zeros alone
only_zeros : (ns : List ℕ) → DividesAll 0 ns → sum ns ≡ 0
only_zeros [] h = refl
only_zeros (n ∷ ns) h = let e = eq-zero_of_zero-dvd h.0 in let f = only_zeros ns h.1 in let s = sum-cons n ns in omega arith

le_sum : (g : ℕ) (ns : List ℕ) → DividesAll g ns → 0 < sum ns → g ≤ sum ns
le_sum g [] h k = absurd (omega arith)
le_sum g (zero ∷ ns) h k = let s = sum-cons zero ns in let f = le_sum g ns h.1 (omega arith) in omega arith
le_sum g (suc n ∷ ns) h k = let s = sum-cons (suc n) ns in let f : g ≤ suc n = le_of_dvd (omega arith) h.0 in omega arith

-- a common divisor that all common divisors divide
pub common_divisor-is : (ns : List ℕ) (g : ℕ) → DividesAll g ns → ((d : ℕ) → DividesAll d ns → d ∣ g) → common_divisor ns ≡ g
unfolding common_divisor
common_divisor-is ns g h k = by_size (size g)
  where
    size : (a : ℕ) → (a ≡ 0) ⊎ (0 < a)
    size a = grind arith

    by_size : (g ≡ 0) ⊎ (0 < g) → greatest (λ d. divides_all d ns) (sum ns) ≡ g
    by_size (inl z) = let s = only_zeros ns (subst (λ (w : ℕ). DividesAll w ns) z h) in greatest-is (λ d. divides_all d ns) (sum ns) g (inl z) (λ d l m. absurd (omega arith))
    by_size (inr p) = greatest-is (λ d. divides_all d ns) (sum ns) g (inr (le_sum g ns h some, DividesAll-to g ns h)) (λ d l m. above d l (cases_Bool (divides_all d ns)))
      where
        some : 0 < sum ns
        some = by_sum (size (sum ns))
          where
            by_sum : (sum ns ≡ 0) ⊎ (0 < sum ns) → 0 < sum ns
            by_sum (inl e) = absurd (let d = k (suc g) (zeros (suc g) ns e) in let l : suc g ≤ g = le_of_dvd p d in omega arith)
            by_sum (inr l) = l

        above : (d : ℕ) → g < d → (divides_all d ns ≡ true) ⊎ (divides_all d ns ≡ false) → divides_all d ns ≡ false
        above d l (inl t) = absurd (let q : d ≤ g = le_of_dvd p (k d (DividesAll-from d ns t)) in omega arith)
        above d l (inr t) = t

-- the greatest common divisor divides all
pub common_divisor-divides : (ns : List ℕ) → 0 < sum ns → (0 < common_divisor ns) × DividesAll (common_divisor ns) ns
unfolding common_divisor
common_divisor-divides ns h =
    let p = greatest-passes (λ d. divides_all d ns) (sum ns) (DividesAll-to 1 ns (ones ns)) h in
    (p.0, DividesAll-from (common_divisor ns) ns p.1)
  where
    ones : (ns : List ℕ) → DividesAll 1 ns
    ones [] = tt
    ones (n ∷ ns) = (dvd_of_mod-eq-zero 1 (mod-one n), ones ns)

-- no number that divides all is greater
pub le_common_divisor : (ns : List ℕ) (d : ℕ) → 0 < sum ns → DividesAll d ns → d ≤ common_divisor ns
unfolding common_divisor
le_common_divisor ns d h k = le_greatest (λ d. divides_all d ns) (sum ns) d (le_sum d ns k h) (DividesAll-to d ns k)
  where
    le_greatest : (test : ℕ → Bool) (n d : ℕ) → d ≤ n → test d ≡ true → d ≤ greatest test n
    le_greatest test zero d h k = h
    le_greatest test (suc n) d h k = by_top (cases_Bool (test (suc n))) (cases_lt d (suc n)) (λ l. le_greatest test n d l k)
      where
        by_top : (test (suc n) ≡ true) ⊎ (test (suc n) ≡ false) → (d < suc n) ⊎ (suc n ≤ d) → (d ≤ n → d ≤ greatest test n) → d ≤ greatest test (suc n)
        by_top (inl t) o f = subst (λ (z : ℕ). d ≤ z) (sym (ap (λ (z : Bool). cond z (suc n) (greatest test n)) t)) h
        by_top (inr t) (inl l) f = subst (λ (z : ℕ). d ≤ z) (sym (ap (λ (z : Bool). cond z (suc n) (greatest test n)) t)) (f (omega arith))
        by_top (inr t) (inr l) f = let e : d ≡ suc n = omega arith in let q = subst (λ (z : ℕ). test z ≡ true) e k in absurd cc

abbrev pub sizes_of : List RowTerm → List ℕ
sizes_of ts = map (λ t. unsigned_abs t.coef) ts

-- the greatest common divisor of a number and of coefficients, one after the other
abbrev pub common_from : ℕ → List RowTerm → ℕ → Type 0
common_from a [] g = a ≡ g
common_from a (t ∷ ts) g = (b : ℕ) × IsGcd a (unsigned_abs t.coef) b × common_from b ts g

pub common-step : (ts : List RowTerm) (i : ℕ) (d : RowTerm) (a b g : ℕ) → i < length ts → IsGcd a (unsigned_abs (get_or ts i d).coef) b → common_from b (drop (i + 1) ts) g → common_from a (drop i ts) g
common-step ts i d a b g h k m = subst (λ (z : List RowTerm). common_from a z g) (sym (rest ts i d h)) (b, k, m)
  where
    rest : (ts : List RowTerm) (i : ℕ) (d : RowTerm) → i < length ts → drop i ts ≡ get_or ts i d ∷ drop (i + 1) ts
    rest ts i d h = rw (add-one, drop-cons ts i d) refl

pub common-end : (ts : List RowTerm) (i g : ℕ) → length ts ≤ i → common_from g (drop i ts) g
common-end ts i g h = subst (λ (z : List RowTerm). common_from g z g) (sym (nothing_left ts i h)) refl

common_divides : (a : ℕ) (ts : List RowTerm) (g : ℕ) → common_from a ts g → (g ∣ a) × DividesAll g (sizes_of ts)
common_divides a [] g h = (subst (λ (z : ℕ). z ∣ a) h (dvd_refl a), tt)
common_divides a (t ∷ ts) g h =
    let r = common_divides h.0 ts g h.2 in
    (dvd_trans g r.0 h.1.0, (dvd_trans g r.0 h.1.1, r.1))

common_is_greatest : (a : ℕ) (ts : List RowTerm) (g d : ℕ) → common_from a ts g → d ∣ a → DividesAll d (sizes_of ts) → d ∣ g
common_is_greatest a [] g d h k l = subst (λ (z : ℕ). d ∣ z) h k
common_is_greatest a (t ∷ ts) g d h k l = common_is_greatest h.0 ts g d h.2 (h.1.2 d k l.0) l.1

pub divisor_of-is : (ts : List RowTerm) (g : ℕ) → common_from 0 ts g → g ≡ divisor_of ts
divisor_of-is ts g h = sym (common_divisor-is (sizes_of ts) g (common_divides 0 ts g h).1 (λ d k. common_is_greatest 0 ts g d h (dvd-zero d) k))

pub common_divisor-pair : (a b g : ℕ) → IsGcd a b g → g ≡ common_divisor (a ∷ b ∷ [])
common_divisor-pair a b g h = sym (common_divisor-is (a ∷ b ∷ []) g (h.0, (h.1, tt)) (λ d k. h.2 d k.0 k.1.0))

pub positive_divisor : (g n : ℕ) → 0 < n → g ∣ n → 0 < g
positive_divisor g n h d = by_size (size g)
  where
    size : (a : ℕ) → (a ≡ 0) ⊎ (0 < a)
    size a = grind arith

    by_size : (g ≡ 0) ⊎ (0 < g) → 0 < g
    by_size (inl e) = absurd (let z = eq-zero_of_zero-dvd (subst (λ (w : ℕ). w ∣ n) e d) in omega arith)
    by_size (inr l) = l
