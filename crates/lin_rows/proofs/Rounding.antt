use Prim.Native.Nat.{◌∣◌}
use Rattle.std.proofs.Common.{◌≡◌, ℕ, zero, suc, ◌+◌, ◌*◌, ◌/◌, ◌%◌, ◌^◌, ◌<◌, ◌≤◌, ℤ, pos, negsuc, ◌+ℤ◌, ◌*ℤ◌, neg_ℤ, ◌≤ℤ◌, ◌<ℤ◌, Bool, true, false, cond, not, List, [], ◌∷◌, map, refl, sym, ◌∙◌, ap, subst, arith, unsigned_abs, ◌⊎◌, inl, inr}
use Rattle.std.proofs.lemmas.Bool.{and_from}
use Rattle.std.specs.Prelude.{nat_lt, ◌↔◌}
use Rattle.std.specs.Int.{int_div_euclid}
use Rattle.std.proofs.lemmas.Int.{ints}
use Rattle.std.proofs.lemmas.Bool.Decides.{nat_tests}
use Rattle.std.proofs.lemmas.List.Sums.{sum_by-cons}
use Rattle.std.proofs.lemmas.Nat.Gcd.{mod-eq-zero_of_dvd, le_of_dvd}
use Rattle.std.proofs.Math.IntN.{pos-*ℤ-pos, pos-*ℤ-negsuc, *ℤ-zero, *ℤ-one, zero-*ℤ, suc_ℤ-*ℤ}
use Rattle.std.proofs.Math.Nat.{mul-le-mul_left, div-le_self}
use Rattle.lin_rows.specs.Numbers.{in_range, is_zero}
use Rattle.lin_rows.specs.declared.term.RowTerm.{RowTerm}
use Rattle.lin_rows.specs.Rows.{Row, has_no_terms, is_coefficient, rises_from, is_row, value_at, Satisfies}
use Rattle.lin_rows.specs.Divisors.{divisor_of, divided_term, divided, tightened}
use Rattle.lin_rows.proofs.Ring.{add_mul, mul_assoc}
use Rattle.lin_rows.proofs.Points.{is_zero-is}
use Rattle.lin_rows.proofs.Kept.{first_of_both, second_of_both, rises, rises-cons}
use Rattle.lin_rows.proofs.Divisor.{DividesAll, sizes_of, common_divisor-divides}

pub mul_le : (n : ℕ) (a b : ℤ) → a ≤ℤ b → (pos n *ℤ a) ≤ℤ (pos n *ℤ b)
mul_le zero a b h = let p = zero-*ℤ a in let q = zero-*ℤ b in omega (arith, ints)
mul_le (suc n) a b h = let ih = mul_le n a b h in let p = suc_ℤ-*ℤ (pos n) a in let q = suc_ℤ-*ℤ (pos n) b in omega (arith, ints)

-- a whole quotient
whole_part : (g : ℕ) (c : ℤ) → 0 < g → g ∣ unsigned_abs c → pos g *ℤ int_div_euclid c (pos g) ≡ c
whole_part g (pos a) h d = let m = mod-eq-zero_of_dvd g d in let p = pos-*ℤ-pos g (a / g) in let e : g * (a / g) ≡ a = omega arith in p ∙ ap (λ (z : ℕ). pos z) e
whole_part g (negsuc a) h d =
    let m = mod-eq-zero_of_dvd g d in
    let p = pos-*ℤ-negsuc g (a / g) in
    let e : g * suc (a / g) ≡ suc a = next a m in
    p ∙ ap (λ (z : ℕ). neg_ℤ (pos z)) e
  where
    next : (a : ℕ) → suc a % g ≡ 0 → g * suc (a / g) ≡ suc a
    next a m = by_order (suc a / g) (a / g) up (omega arith) (omega arith) (order (suc a / g) (a / g))
      where
        up : g * (suc a / g) ≡ suc a
        up = omega arith

        order : (q p : ℕ) → (q ≤ p) ⊎ ((q ≡ suc p) ⊎ (suc (suc p) ≤ q))
        order q p = grind arith

        by_order : (q p : ℕ) → g * q ≡ suc a → g * p ≤ a → a < g * p + g → (q ≤ p) ⊎ ((q ≡ suc p) ⊎ (suc (suc p) ≤ q)) → g * suc p ≡ suc a
        by_order q p e l u (inl k) = absurd (let w = mul-le-mul_left g k in omega arith)
        by_order q p e l u (inr (inl k)) = ap (λ z. g * z) (sym k) ∙ e
        by_order q p e l u (inr (inr k)) = absurd (let w = mul-le-mul_left g k in let y : g * suc (suc p) ≡ g * p + g + g = grind arith in omega arith)

-- the bound goes down to the next multiple
floor_low : (g : ℕ) (b : ℤ) → 0 < g → (pos g *ℤ int_div_euclid b (pos g)) ≤ℤ b
floor_low g (pos a) h = let p = pos-*ℤ-pos g (a / g) in let e : g * (a / g) ≤ a = omega arith in omega (arith, ints)
floor_low g (negsuc a) h = let p = pos-*ℤ-negsuc g (a / g) in let e : a < g * suc (a / g) = (let f : g * suc (a / g) ≡ g * (a / g) + g = grind arith in omega arith) in omega (arith, ints)

floor_high : (g : ℕ) (b : ℤ) → 0 < g → b <ℤ ((pos g *ℤ int_div_euclid b (pos g)) +ℤ pos g)
floor_high g (pos a) h = let p = pos-*ℤ-pos g (a / g) in let e : a < g * (a / g) + g = omega arith in omega (arith, ints)
floor_high g (negsuc a) h = let p = pos-*ℤ-negsuc g (a / g) in let f : g * suc (a / g) ≡ g * (a / g) + g = grind arith in let e : g * suc (a / g) ≤ a + g = omega arith in omega (arith, ints)

-- a multiple is at most the bound where the number is at most the rounded quotient
pub floor_up : (g : ℕ) (b s : ℤ) → 0 < g → s ≤ℤ int_div_euclid b (pos g) → (pos g *ℤ s) ≤ℤ b
floor_up g b s h k = let m = mul_le g s (int_div_euclid b (pos g)) k in let l = floor_low g b h in omega (arith, ints)

pub floor_down : (g : ℕ) (b s : ℤ) → 0 < g → (pos g *ℤ s) ≤ℤ b → s ≤ℤ int_div_euclid b (pos g)
floor_down g b s h k = elim (order s (int_div_euclid b (pos g))) [
  | inl l ↦ l
  | inr l ↦ absurd (
      let m = mul_le g (int_div_euclid b (pos g) +ℤ pos 1) s l in
      let e = add_mul (pos g) (int_div_euclid b (pos g)) (pos 1) in
      let o = *ℤ-one (pos g) in
      let u = floor_high g b h in omega (arith, ints))
]
  where
    order : (a b : ℤ) → (a ≤ℤ b) ⊎ ((b +ℤ pos 1) ≤ℤ a)
    order a b = grind (arith, ints)

-- the value of the divided terms
pub value_at-divided : (x : ℕ → ℤ) (g : ℕ) (ts : List RowTerm) → 0 < g → DividesAll g (sizes_of ts) → pos g *ℤ value_at x (map (divided_term (pos g)) ts) ≡ value_at x ts
value_at-divided x g [] h k = *ℤ-zero (pos g)
value_at-divided x g (t ∷ ts) h k =
    let ih = value_at-divided x g ts h k.1 in
    let w = whole_part g t.coef h k.0 in
    let e = add_mul (pos g) (int_div_euclid t.coef (pos g) *ℤ x t.place) (value_at x (map (divided_term (pos g)) ts)) in
    let f = sym (mul_assoc (pos g) (int_div_euclid t.coef (pos g)) (x t.place)) ∙ ap (λ z. z *ℤ x t.place) w in
    omega (arith, ints)

-- a number that divides all coefficients, and rounding the bound down, keep the points
satisfies-divided : (x : ℕ → ℤ) (g : ℕ) (r : Row) → 0 < g → DividesAll g (sizes_of r.terms) → Satisfies x r → Satisfies x (divided (pos g) r)
satisfies-divided x g r h k m = let v = value_at-divided x g r.terms h k in floor_down g r.bound (value_at x (map (divided_term (pos g)) r.terms)) h (omega (arith, ints))

satisfies-of_divided : (x : ℕ → ℤ) (g : ℕ) (r : Row) → 0 < g → DividesAll g (sizes_of r.terms) → Satisfies x (divided (pos g) r) → Satisfies x r
satisfies-of_divided x g r h k m = let v = value_at-divided x g r.terms h k in let u = floor_up g r.bound (value_at x (map (divided_term (pos g)) r.terms)) h m in omega (arith, ints)

-- the size of a coefficient
coefficient_size : (c : ℤ) → is_coefficient c ≡ true → (0 < unsigned_abs c) × (unsigned_abs c < 2 ^ 127)
coefficient_size c h = (positive c (first_of_both (not (is_zero c)) (in_range c) h), below (unsigned_abs c) (second_of_both (not (is_zero c)) (in_range c) h))
  where
    positive : (c : ℤ) → not (is_zero c) ≡ true → 0 < unsigned_abs c
    positive (pos zero) h = absurd cc
    positive (pos (suc n)) h = omega arith
    positive (negsuc n) h = omega arith

    below : (n : ℕ) → nat_lt n (2 ^ 127) ≡ true → n < 2 ^ 127
    below n h = grind (arith, nat_tests)

pub record IsDivisor (ts : List RowTerm) : Type 0 where
  pub positive : 0 < divisor_of ts
  pub below : divisor_of ts < 2 ^ 127
  pub divides : DividesAll (divisor_of ts) (sizes_of ts)

-- the greatest common divisor of the coefficients of a row that has terms
pub divisor_of-row : (ts : List RowTerm) → has_no_terms ts ≡ false → rises_from 0 ts ≡ true → IsDivisor ts
divisor_of-row [] h k = absurd cc
divisor_of-row (t ∷ ts) h k =
    let r = rises 0 t ts k in
    let s = coefficient_size t.coef r.coefficient in
    let c = sum_by-cons (λ n. n) (unsigned_abs t.coef) (sizes_of ts) in
    let d = common_divisor-divides (sizes_of (t ∷ ts)) (omega (arith, s.0)) in
    let l : divisor_of (t ∷ ts) ≤ unsigned_abs t.coef = le_of_dvd s.0 d.1.0 in
    record { positive = d.0; below = omega (arith, s.1); divides = d.1 }

-- a quotient is not larger
div_size : (g : ℕ) (b : ℤ) → unsigned_abs (int_div_euclid b (pos g)) ≤ unsigned_abs b
div_size g (pos a) = div-le_self a g
div_size g (negsuc a) = let d = div-le_self a g in omega arith

in_range-div : (g : ℕ) (b : ℤ) → in_range b ≡ true → in_range (int_div_euclid b (pos g)) ≡ true
in_range-div g b h = below (unsigned_abs (int_div_euclid b (pos g))) (unsigned_abs b) (div_size g b) h
  where
    below : (m n : ℕ) → m ≤ n → nat_lt n (2 ^ 127) ≡ true → nat_lt m (2 ^ 127) ≡ true
    below m n h k = grind (arith, nat_tests)

is_coefficient-div : (g : ℕ) (c : ℤ) → 0 < g → g ∣ unsigned_abs c → is_coefficient c ≡ true → is_coefficient (int_div_euclid c (pos g)) ≡ true
is_coefficient-div g c h d k =
    and_from (not (is_zero (int_div_euclid c (pos g)))) (in_range (int_div_euclid c (pos g)))
    (by_zero (is_zero (int_div_euclid c (pos g))) refl)
    (in_range-div g c (second_of_both (not (is_zero c)) (in_range c) k))
  where
    by_zero : (b : Bool) → is_zero (int_div_euclid c (pos g)) ≡ b → not (is_zero (int_div_euclid c (pos g))) ≡ true
    by_zero true e =
        let z = is_zero-is (int_div_euclid c (pos g)) e in
        let w = sym (whole_part g c h d) ∙ ap (λ q. pos g *ℤ q) z ∙ *ℤ-zero (pos g) in
        let p = (coefficient_size c k).0 in
        let q : unsigned_abs c ≡ 0 = ap unsigned_abs w in
        absurd (omega arith)
    by_zero false e = ap not e

pub rises-divided : (g least : ℕ) (ts : List RowTerm) → 0 < g → DividesAll g (sizes_of ts) → rises_from least ts ≡ true → rises_from least (map (divided_term (pos g)) ts) ≡ true
rises-divided g least [] h d k = refl
rises-divided g least (t ∷ ts) h d k =
    let r = rises least t ts k in
    rises-cons least (divided_term (pos g) t) (map (divided_term (pos g)) ts) r.place_from (is_coefficient-div g t.coef h d.0 r.coefficient) (rises-divided g (suc t.place) ts h d.1 r.others)

-- tightening gives a row
pub is_row-divided : (r : Row) → has_no_terms r.terms ≡ false → is_row r ≡ true → is_row (divided (pos (divisor_of r.terms)) r) ≡ true
is_row-divided r h k =
    let rising = first_of_both (rises_from 0 r.terms) (in_range r.bound) k in
    let d = divisor_of-row r.terms h rising in
    and_from (rises_from 0 (map (divided_term (pos (divisor_of r.terms))) r.terms)) (in_range (int_div_euclid r.bound (pos (divisor_of r.terms))))
    (rises-divided (divisor_of r.terms) 0 r.terms d.positive d.divides rising)
    (in_range-div (divisor_of r.terms) r.bound (second_of_both (rises_from 0 r.terms) (in_range r.bound) k))

pub tightened-cases : (P : Row → Type 0) (r : Row) → (has_no_terms r.terms ≡ true → P r) → (has_no_terms r.terms ≡ false → P (divided (pos (divisor_of r.terms)) r)) → P (tightened r)
tightened-cases P r a b = by_terms (has_no_terms r.terms) refl
  where
    by_terms : (e : Bool) → has_no_terms r.terms ≡ e → P (cond e r (divided (pos (divisor_of r.terms)) r))
    by_terms true h = a h
    by_terms false h = b h

pub is_row-tightened : (r : Row) → is_row r ≡ true → is_row (tightened r) ≡ true
is_row-tightened r k = tightened-cases (λ s. is_row s ≡ true) r (λ h. k) (λ h. is_row-divided r h k)

-- tightening keeps the points of a row
pub satisfies-tightened : (x : ℕ → ℤ) (r : Row) → is_row r ≡ true → Satisfies x r → Satisfies x (tightened r)
satisfies-tightened x r k m = tightened-cases (λ s. Satisfies x s) r (λ h. m)
    (λ h. let d = divisor_of-row r.terms h (first_of_both (rises_from 0 r.terms) (in_range r.bound) k) in satisfies-divided x (divisor_of r.terms) r d.positive d.divides m)

pub satisfies-of_tightened : (x : ℕ → ℤ) (r : Row) → is_row r ≡ true → Satisfies x (tightened r) → Satisfies x r
satisfies-of_tightened x r k = tightened-cases (λ s. Satisfies x s → Satisfies x r) r (λ h m. m)
    (λ h m. let d = divisor_of-row r.terms h (first_of_both (rises_from 0 r.terms) (in_range r.bound) k) in satisfies-of_divided x (divisor_of r.terms) r d.positive d.divides m)

pub same_points-tightened : (r out : Row) → is_row r ≡ true → out ≡ tightened r → (x : ℕ → ℤ) → Satisfies x r ↔ Satisfies x out
same_points-tightened r out k e x = subst (λ (z : Row). Satisfies x r ↔ Satisfies x z) (sym e) (satisfies-tightened x r k, satisfies-of_tightened x r k)
