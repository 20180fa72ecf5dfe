-- The least sum of two rows that cancels a place.
use Rattle.std.specs.Prelude.{ℕ, ◌/◌, ℤ, pos, unsigned_abs, [], ◌∷◌, Option}
use Rattle.std.specs.Option.{option_map}
use Rattle.lin_rows.specs.declared.combining.Combined.{Combined}
use Rattle.lin_rows.specs.Rows.{Row, coefficient_at}
use Rattle.lin_rows.specs.Divisors.{common_divisor}
use Rattle.lin_rows.specs.Sums.{row_sum}

-- the least positive number by which `one` is multiplied to be a multiple of `other`, neither of them 0
abbrev pub least_factor : ℤ → ℤ → ℤ
least_factor one other =
    pos (unsigned_abs other / common_divisor (unsigned_abs one ∷ unsigned_abs other ∷ []))

-- the least multiplier of the left row that cancels a place, where the coefficients of the two rows have different signs
abbrev pub first_factor : Row → Row → ℕ → ℤ
first_factor l r place = least_factor (coefficient_at l.terms place) (coefficient_at r.terms place)

-- the least multiplier of the right row that cancels a place
abbrev pub second_factor : Row → Row → ℕ → ℤ
second_factor l r place = least_factor (coefficient_at r.terms place) (coefficient_at l.terms place)

-- the sum that cancels a place, with its multipliers
abbrev pub combined : Row → Row → ℕ → Option Combined
combined l r place =
    option_map (λ sum. record {
      row = sum;
      first = first_factor l r place;
      second = second_factor l r place;
    })
    (row_sum l (first_factor l r place) r (second_factor l r place))
