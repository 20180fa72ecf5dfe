-- Multipliers and divisors that are 1.
use Rattle.std.proofs.Common.{◌≡◌, ℕ, suc, ◌+◌, ℤ, pos, negsuc, ◌+ℤ◌, ◌*ℤ◌, Bool, true, false, cond, not, List, [], ◌∷◌, map, Option, Some, None, refl, sym, ◌∙◌, ap, subst, arith, unsigned_abs}
use Rattle.std.proofs.lemmas.Bool.{and_parts}
use Rattle.std.specs.Int.{int_div_euclid}
use Rattle.std.specs.Option.{option_map, option_and_then}
use Rattle.std.proofs.lemmas.Int.{ints}
use Rattle.std.proofs.Math.Nat.{div-one, one-dvd}
use Rattle.std.proofs.Math.IntN.{suc_ℤ-*ℤ, zero-*ℤ}
use Rattle.lin_rows.specs.Numbers.{fit, in_range, is_zero}
use Rattle.lin_rows.specs.declared.term.RowTerm.{RowTerm}
use Rattle.lin_rows.specs.Rows.{Row, is_row, rises_from, has_no_terms}
use Rattle.lin_rows.specs.Divisors.{divisor_of, divided_term, divided, tightened}
use Rattle.lin_rows.specs.Sums.{put_fit, put, scaled, row_fit, times_row, plus_row, row_sum}
use Rattle.lin_rows.proofs.Kept.{rises}
use Rattle.lin_rows.proofs.Divisor.{common_from, divisor_of-is}

-- one divides every number, so nothing more is in common
pub common_from-one : (ts : List RowTerm) → common_from 1 ts 1
common_from-one [] = refl
common_from-one (t ∷ ts) = (1, (one-dvd 1, one-dvd (unsigned_abs t.coef), λ d h k. h), common_from-one ts)

-- divided by one
quotient-one : (c : ℤ) → int_div_euclid c (pos 1) ≡ c
quotient-one (pos n) = ap (λ (z : ℕ). pos z) (div-one n)
quotient-one (negsuc n) = ap (λ (z : ℕ). negsuc z) (div-one n)

terms-one : (ts : List RowTerm) → map (divided_term (pos 1)) ts ≡ ts
terms-one [] = refl
terms-one (t ∷ ts) = λ i. record { place = t.place; coef = quotient-one t.coef i } ∷ terms-one ts i

divided-one : (r : Row) → divided (pos 1) r ≡ r
divided-one r = λ i. record { terms = terms-one r.terms i; bound = quotient-one r.bound i }

-- a row whose coefficients have no common divisor stays
pub tightened-one : (r : Row) → divisor_of r.terms ≡ 1 → tightened r ≡ r
tightened-one r e = by_case (has_no_terms r.terms) refl
  where
    by_case : (b : Bool) → has_no_terms r.terms ≡ b → cond b r (divided (pos (divisor_of r.terms)) r) ≡ r
    by_case true n = refl
    by_case false n = ap (λ (z : ℕ). divided (pos z) r) e ∙ divided-one r

-- what no more is common to
pub divisor_of-one : (ts rest : List RowTerm) (g : ℕ) → (g ≡ 1) → ((k : ℕ) → common_from g rest k → common_from 0 ts k) → 1 ≡ divisor_of ts
divisor_of-one ts rest g e h = divisor_of-is ts 1 (h 1 (subst (λ (z : ℕ). common_from z rest 1) (sym e) (common_from-one rest)))

-- the sum of multiples before it is tightened
pub row_sum-is : (l : Row) (first : ℤ) (r : Row) (second : ℤ)
    → row_sum l first r second ≡ option_map tightened (option_and_then (λ p. option_and_then (λ q. plus_row p q) (times_row second r)) (times_row first l))
row_sum-is l first r second = by_two (times_row first l) (times_row second r)
  where
    by_two : (a b : Option Row) → option_and_then (λ p. option_and_then (λ q. option_map tightened (plus_row p q)) b) a ≡ option_map tightened (option_and_then (λ p. option_and_then (λ q. plus_row p q) b) a)
    by_two None b = refl
    by_two (Some p) None = refl
    by_two (Some p) (Some q) = refl

-- a number of its range, times one
once : (c : ℤ) → pos 1 *ℤ c ≡ c
once c = let p : pos 1 *ℤ c ≡ pos 0 *ℤ c +ℤ c = suc_ℤ-*ℤ (pos 0) c in let q = zero-*ℤ c in omega (arith, ints)

fit-one : (c : ℤ) → in_range c ≡ true → fit (pos 1 *ℤ c) ≡ Some c
fit-one c h = ap (λ (z : ℤ). fit z) (once c) ∙ ap (λ (b : Bool). cond b (Some c) None) h

scaled-one : (least : ℕ) (ts : List RowTerm) → rises_from least ts ≡ true → scaled (pos 1) ts ≡ Some ts
scaled-one least [] h = refl
scaled-one least (t ∷ ts) h =
    let r = rises least t ts h in
    let p = and_parts (not (is_zero t.coef)) (in_range t.coef) r.coefficient in
    (λ i. put_fit t.place (fit-one t.coef p.1 i) (scaled-one (suc t.place) ts r.others i))
    ∙ kept (is_zero t.coef) refl p.0
  where
    kept : (b : Bool) → is_zero t.coef ≡ b → not (is_zero t.coef) ≡ true → Some (put (record { place = t.place; coef = t.coef }) ts) ≡ Some (t ∷ ts)
    kept true e n = absurd cc
    kept false e n = ap (λ (z : Bool). Some (cond z ts (t ∷ ts))) e

-- once a row is that row
pub times_row-one : (r : Row) → is_row r ≡ true → times_row (pos 1) r ≡ Some r
times_row-one r h =
    let p = and_parts (rises_from 0 r.terms) (in_range r.bound) h in
    λ i. row_fit (scaled-one 0 r.terms p.0 i) (fit-one r.bound p.1 i)
