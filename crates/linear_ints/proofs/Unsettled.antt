use Rattle.std.proofs.Common.{◌≡◌, ℕ, suc, ℤ, pos, negsuc, ◌+ℤ◌, ◌-ℤ◌, ◌*ℤ◌, ◌≤ℤ◌, Bool, true, false, cond, List, [], ◌∷◌, map, refl, sym, ◌∙◌, ap, subst, arith, unsigned_abs, Option, Some, None, length, ◌<◌, ◌||◌, inl, inr}
use Rattle.std.proofs.lemmas.Bool.{or_cases}
use Rattle.std.specs.List.{list_any}
use Rattle.std.specs.Int.{int_div_euclid}
use Rattle.std.proofs.lemmas.Int.{ints}
use Rattle.std.proofs.Math.Nat.{div-one}
use Rattle.std.proofs.Math.IntN.{*ℤ-zero, *ℤ-one}
use Rattle.lin_rows.specs.Numbers.{fit}
use Rattle.lin_rows.specs.Rows.{Row, value_at, opposite, negated}
use Rattle.lin_rows.specs.Divisors.{common_divisor, tightened}
use Rattle.lin_rows.proofs.Points.{option_map-went, fit-is}
use Rattle.line_rows.specs.Splits.{at_most}
use Rattle.line_rows.specs.Evidence.{same_row}
use Rattle.line_rows.specs.Steps.{row_at}
use Rattle.proof_lines.proofs.Sets.{same_nat-refl}
use Rattle.line_rows.proofs.Certificates.{same_row-is}
use Rattle.theory_api.specs.Laws.{settles, is_that}
use Rattle.linear_ints.specs.Fractions.{size, IsInGap, InOrder}

-- the row `place <= at` or its opposite, with its coefficient
abbrev unit_row : ℕ → ℤ → ℤ → Row
unit_row place coef bound = record { terms = record { place = place; coef = coef } ∷ []; bound = bound }

div_one : (b : ℤ) → int_div_euclid b (pos 1) ≡ b
div_one (pos a) = ap pos (div-one a)
div_one (negsuc a) = ap negsuc (div-one a)

-- tightening leaves both alone
pub tightened-at_most : (place : ℕ) (at : ℤ) → tightened (at_most place at) ≡ at_most place at
unfolding common_divisor
tightened-at_most place at = ap (unit_row place (pos 1)) (div_one at)

tightened-opposite : (place : ℕ) (bound : ℤ) → tightened (unit_row place (negsuc 0) bound) ≡ unit_row place (negsuc 0) bound
unfolding common_divisor
tightened-opposite place bound = ap (unit_row place (negsuc 0)) (div_one bound)

opposite_is : (place : ℕ) (at : ℤ) (r : Row) → negated (at_most place at) ≡ Some r → unit_row place (negsuc 0) (pos 0 -ℤ at -ℤ pos 1) ≡ r
opposite_is place at r h =
    let w = option_map-went (λ b. record { terms = map opposite (at_most place at).terms; bound = b }) (fit (pos 0 -ℤ at -ℤ pos 1)) r h in
    ap (unit_row place (negsuc 0)) (fit-is (pos 0 -ℤ at -ℤ pos 1) w.0 w.1) ∙ w.2

pub tightened-negated : (place : ℕ) (at : ℤ) (r : Row) → negated (at_most place at) ≡ Some r → tightened r ≡ r
tightened-negated place at r h = subst (λ (q : Row). tightened q ≡ q) (opposite_is place at r h) (tightened-opposite place (pos 0 -ℤ at -ℤ pos 1))

unit_size : (place : ℕ) (coef bound : ℤ) → size (unit_row place coef bound) place ≡ unsigned_abs coef
unit_size place coef bound = ap (λ (b : Bool). unsigned_abs (cond b coef (pos 0))) (same_nat-refl place)

unit_value : (x : ℕ → ℤ) (place : ℕ) (coef bound : ℤ) → x place ≡ pos 0 → value_at x (unit_row place coef bound).terms ≡ pos 0
unit_value x place coef bound z = let e = ap (λ v. coef *ℤ v) z in let f = *ℤ-zero coef in omega (arith, ints)

-- in a gap no row says `place <= at`: it would be an upper row no higher than the lower one
pub not-at_most : (x : ℕ → ℤ) (place : ℕ) (at : ℤ) (low : Row) → x place ≡ pos 0 → InOrder x place low (at_most place at) → IsInGap at (value_at x low.terms -ℤ low.bound) (size low place) → ⊥
not-at_most x place at low z o g =
    let n = value_at x low.terms -ℤ low.bound in
    let u : ((value_at x low.terms -ℤ low.bound) *ℤ pos 1) ≤ℤ ((at -ℤ pos 0) *ℤ pos (size low place)) =
    subst (λ (v : ℤ). ((value_at x low.terms -ℤ low.bound) *ℤ pos 1) ≤ℤ ((at -ℤ v) *ℤ pos (size low place))) (unit_value x place (pos 1) at z)
    (subst (λ (s : ℕ). ((value_at x low.terms -ℤ low.bound) *ℤ pos s) ≤ℤ ((at -ℤ value_at x (at_most place at).terms) *ℤ pos (size low place))) (unit_size place (pos 1) at) o) in
    let e = *ℤ-one (value_at x low.terms -ℤ low.bound) in
    let f : at -ℤ pos 0 ≡ at = omega (arith, ints) in
    let h = ap (λ v. v *ℤ pos (size low place)) f in
    let l = g.0 in omega (arith, ints)

-- nor its opposite
pub not-negated : (x : ℕ → ℤ) (place : ℕ) (at : ℤ) (r high : Row) → negated (at_most place at) ≡ Some r → x place ≡ pos 0 → InOrder x place r high → IsInGap at (high.bound -ℤ value_at x high.terms) (size high place) → ⊥
not-negated x place at r high e z o g = against (subst (λ (q : Row). InOrder x place q high) (sym (opposite_is place at r e)) o)
  where
    against : InOrder x place (unit_row place (negsuc 0) (pos 0 -ℤ at -ℤ pos 1)) high → ⊥
    against p =
        let u : ((pos 0 -ℤ (pos 0 -ℤ at -ℤ pos 1)) *ℤ pos (size high place)) ≤ℤ ((high.bound -ℤ value_at x high.terms) *ℤ pos 1) =
        subst (λ (v : ℤ). ((v -ℤ (pos 0 -ℤ at -ℤ pos 1)) *ℤ pos (size high place)) ≤ℤ ((high.bound -ℤ value_at x high.terms) *ℤ pos 1)) (unit_value x place (negsuc 0) (pos 0 -ℤ at -ℤ pos 1) z)
        (subst (λ (s : ℕ). ((value_at x (unit_row place (negsuc 0) (pos 0 -ℤ at -ℤ pos 1)).terms -ℤ (pos 0 -ℤ at -ℤ pos 1)) *ℤ pos (size high place)) ≤ℤ ((high.bound -ℤ value_at x high.terms) *ℤ pos s)) (unit_size place (negsuc 0) (pos 0 -ℤ at -ℤ pos 1)) p) in
        let d = *ℤ-one (high.bound -ℤ value_at x high.terms) in
        let f : pos 0 -ℤ (pos 0 -ℤ at -ℤ pos 1) ≡ at +ℤ pos 1 = omega (arith, ints) in
        let h = ap (λ v. v *ℤ pos (size high place)) f in
        let l = g.1 in omega (arith, ints)

-- NO GIVEN ROW SETTLES A GAP, where the lower row and each given row `place <= at`, and each given opposite and the upper row, are in order
pub unsettled-one : (x : ℕ → ℤ) (place : ℕ) (at : ℤ) (low high r : Row) → x place ≡ pos 0
    → IsInGap at (value_at x low.terms -ℤ low.bound) (size low place) → IsInGap at (high.bound -ℤ value_at x high.terms) (size high place)
    → (r ≡ at_most place at → tightened r ≡ at_most place at → InOrder x place low (at_most place at))
    → ((q : Row) → negated (at_most place at) ≡ Some q → r ≡ q → tightened r ≡ q → InOrder x place q high)
    → settles place at r ≡ true → ⊥
unsettled-one x place at low high r z g h f k s = elim (or_cases (same_row r (at_most place at)) (is_that (negated (at_most place at)) r) s) [
  | inl e ↦ (let is = same_row-is r (at_most place at) e in not-at_most x place at low z (f is (ap tightened is ∙ tightened-at_most place at)) g)
  | inr e ↦ by_option (negated (at_most place at)) refl e
]
  where
    by_option : (o : Option Row) → negated (at_most place at) ≡ o → is_that o r ≡ true → ⊥
    by_option None e t = absurd cc
    by_option (Some q) e t =
        let is = same_row-is r q t in
        not-negated x place at q high e z (k q e is (ap tightened is ∙ tightened-negated place at q e)) h

pub none-settles : (place : ℕ) (at : ℤ) (rows : List Row) → ((k : ℕ) → k < length rows → settles place at (row_at rows k) ≡ true → ⊥) → list_any (settles place at) rows ≡ false
none-settles place at [] h = refl
none-settles place at (r ∷ rows) h = by_first (settles place at r) refl (none-settles place at rows (λ k l. h (suc k) (omega arith)))
  where
    by_first : (b : Bool) → settles place at r ≡ b → list_any (settles place at) rows ≡ false → (b || list_any (settles place at) rows) ≡ false
    by_first true e o = absurd (h 0 (omega arith) e)
    by_first false e o = o
