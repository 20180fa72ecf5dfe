-- The signs of coefficients.
use Rattle.std.proofs.Common.{◌≡◌, ℕ, suc, ℤ, pos, negsuc, ◌<ℤ◌, true, cond, List, arith, zero, Bool, false, refl}
use Rattle.std.proofs.lemmas.Bool.{and_parts}
use Rattle.std.specs.Prelude.{int_lt}
use Rattle.std.proofs.lemmas.Int.{ints}
use Rattle.lin_rows.specs.Rows.{Row, coefficient_at}
use Rattle.line_rows.specs.Steps.{is_negative, is_positive}
use Rattle.lin_rows.specs.Numbers.{is_zero}
use Rattle.theory_api.specs.Ends.{names_none}
use Rattle.elimination.specs.Sides.{is_on}

pub lt_so : (a b : ℤ) → a <ℤ b → int_lt a b ≡ true
lt_so a b h = grind (arith, ints)

-- the coefficient of a row on a side isn't 0
pub on-named : (upper : Bool) (before : List ℕ) (place : ℕ) (r : Row) → is_on upper before place r ≡ true → is_zero (coefficient_at r.terms place) ≡ false
on-named upper before place r h = by_sign upper (coefficient_at r.terms place) (and_parts (cond upper (is_positive (coefficient_at r.terms place)) (is_negative (coefficient_at r.terms place))) (names_none before r) h).0
  where
    by_sign : (u : Bool) (a : ℤ) → cond u (is_positive a) (is_negative a) ≡ true → is_zero a ≡ false
    by_sign true (pos zero) h = absurd cc
    by_sign true (pos (suc n)) h = refl
    by_sign true (negsuc n) h = refl
    by_sign false (pos zero) h = absurd cc
    by_sign false (pos (suc n)) h = refl
    by_sign false (negsuc n) h = refl
