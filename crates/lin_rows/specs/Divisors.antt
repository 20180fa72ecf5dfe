-- Common divisors of coefficients, and a row divided by the greatest, its bound rounded down.
use Rattle.std.specs.Prelude.{ℕ, zero, suc, ◌%◌, nat_eq, ℤ, pos, unsigned_abs, Bool, cond, List, map, sum}
use Rattle.std.specs.List.{list_all}
use Rattle.std.specs.Int.{int_div_euclid}
use Rattle.lin_rows.specs.declared.term.RowTerm.{RowTerm}
use Rattle.lin_rows.specs.Rows.{Row, has_no_terms}

-- the greatest number from 1 to n that passes a test; 0 where none does
abbrev pub greatest : (ℕ → Bool) → ℕ → ℕ
greatest test zero = 0
greatest test (suc n) = cond (test (suc n)) (suc n) (greatest test n)

-- the greatest common divisor: the greatest number that divides all of a list; 0 where all are 0
unfoldable pub common_divisor : List ℕ → ℕ
common_divisor ns = greatest (λ d. list_all (λ n. nat_eq (n % d) 0) ns) (sum ns)

-- the greatest common divisor of the coefficients
abbrev pub divisor_of : List RowTerm → ℕ
divisor_of ts = common_divisor (map (λ t. unsigned_abs t.coef) ts)

-- a coefficient divided by a number that divides it
abbrev pub divided_term : ℤ → RowTerm → RowTerm
divided_term by t = record { place = t.place; coef = int_div_euclid t.coef by }

-- each coefficient divided by a number that divides it, and the bound divided by it and rounded down
abbrev pub divided : ℤ → Row → Row
divided by r = record { terms = map (divided_term by) r.terms; bound = int_div_euclid r.bound by }

-- a row divided by the greatest common divisor of its coefficients; a row without terms stays
abbrev pub tightened : Row → Row
tightened r = cond (has_no_terms r.terms) r (divided (pos (divisor_of r.terms)) r)
