-- Rows: a sum of coefficients times whole numbers is at most a bound; when a point satisfies one, and its negation.
use Rattle.std.specs.Prelude.{ℕ, nat_eq, nat_le, nat_lt, suc, ℤ, pos, ◌+ℤ◌, ◌*ℤ◌, ◌-ℤ◌, ◌≤ℤ◌, int_le, int_lt, Bool, true, false, cond, not, ◌&&◌, List, [], ◌∷◌, map, slice_index_or, Option, Some}
use Rattle.std.specs.List.{list_all}
use Rattle.std.specs.Option.{option_map, option_and_then}
use Rattle.lin_rows.specs.Numbers.{in_range, fit, is_zero}
use Rattle.lin_rows.specs.declared.term.RowTerm.{RowTerm}

-- The sum of the terms, each a coefficient times the value at its place, is at most the bound.
pub record Row : Type 0 where
  pub terms : List RowTerm
  pub bound : ℤ

-- a coefficient of a row is not 0 and in its range
abbrev pub is_coefficient : ℤ → Bool
is_coefficient c = not (is_zero c) && in_range c

-- the places rise from the given one on, and all numbers are coefficients
abbrev pub rises_from : ℕ → List RowTerm → Bool
rises_from least [] = true
rises_from least (t ∷ ts) =
    nat_le least t.place && (is_coefficient t.coef && rises_from (suc t.place) ts)

-- all coefficients are in the range of a row
abbrev pub all_in_range : List RowTerm → Bool
all_in_range ts = list_all (λ t. in_range t.coef) ts

-- what the type of a row keeps
abbrev pub is_row : Row → Bool
is_row r = rises_from 0 r.terms && in_range r.bound

-- the places of a row are below a number
abbrev pub places_below : ℕ → Row → Bool
places_below n r = list_all (λ t. nat_lt t.place n) r.terms

-- the coefficient at a place; 0 where no term has it
abbrev pub coefficient_at : List RowTerm → ℕ → ℤ
coefficient_at [] p = pos 0
coefficient_at (t ∷ ts) p = cond (nat_eq t.place p) t.coef (coefficient_at ts p)

-- the sum of coefficients times values
abbrev pub value_at : (ℕ → ℤ) → List RowTerm → ℤ
value_at x [] = pos 0
value_at x (t ∷ ts) = t.coef *ℤ x t.place +ℤ value_at x ts

-- a point, a whole number for each place, satisfies a row
abbrev pub Satisfies : (ℕ → ℤ) → Row → Type 0
Satisfies x r = value_at x r.terms ≤ℤ r.bound

-- there are no terms
abbrev pub has_no_terms : List RowTerm → Bool
has_no_terms [] = true
has_no_terms (t ∷ ts) = false

-- no point satisfies it: no terms and a negative bound
abbrev pub is_contradiction : Row → Bool
is_contradiction r = has_no_terms r.terms && int_lt r.bound (pos 0)

-- a term with the opposite coefficient
abbrev pub opposite : RowTerm → RowTerm
opposite t = record { place = t.place; coef = pos 0 -ℤ t.coef }

-- the opposite of a row over whole numbers: each coefficient negated, and the bound `-bound - 1`, where that is in range
abbrev pub negated : Row → Option Row
negated r =
    option_map (λ b. record { terms = map opposite r.terms; bound = b })
    (fit (pos 0 -ℤ r.bound -ℤ pos 1))

-- a sum so far and each product in turn, in rising place, where each product and each partial sum is in range
abbrev pub sum_from : (ℕ → ℤ) → ℤ → List RowTerm → Option ℤ
sum_from x so_far [] = Some so_far
sum_from x so_far (t ∷ ts) =
    option_and_then
    (λ product. option_and_then (λ next. sum_from x next ts) (fit (so_far +ℤ product)))
    (fit (t.coef *ℤ x t.place))

-- the point whose values are listed by place
abbrev pub point_of : List ℤ → ℕ → ℤ
point_of values place = slice_index_or values place (pos 0)

-- whether the point satisfies the row, where the products and partial sums are in range
abbrev pub truth_at : (ℕ → ℤ) → Row → Option Bool
truth_at x r = option_map (λ value. int_le value r.bound) (sum_from x (pos 0) r.terms)
