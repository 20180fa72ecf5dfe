-- Sums of multiples of two rows, where the multipliers are tested.
use Rattle.std.specs.Prelude.{◌≡◌, ℤ, pos, int_lt, Bool, true, false, ◌||◌, Option, Some, None, Result, Ok, Err}
use Rattle.lin_rows.specs.declared.multiples.MultiplesRefused.{MultiplesRefused}
use Rattle.lin_rows.specs.declared.multiples.MultiplesRefused.TheVariants.{Negative, Range, Memory}
use Rattle.lin_rows.specs.Rows.{Row}
use Rattle.lin_rows.specs.Sums.{row_sum}

-- one of two multipliers is negative
abbrev pub is_either_negative : ℤ → ℤ → Bool
is_either_negative a b = int_lt a (pos 0) || int_lt b (pos 0)

-- The sum of multiples, by the order of its tests: a negative multiplier, then a product or sum beyond the range of a row. Want of memory
-- may come at any time.
abbrev pub IsSumOfMultiples : Result Row MultiplesRefused → Row → ℤ → Row → ℤ → Type 0
IsSumOfMultiples (Ok row) left a right b =
    (is_either_negative a b ≡ false) × (row_sum left a right b ≡ Some row)
IsSumOfMultiples (Err Negative) left a right b = is_either_negative a b ≡ true
IsSumOfMultiples (Err Range) left a right b =
    (is_either_negative a b ≡ false) × (row_sum left a right b ≡ None)
IsSumOfMultiples (Err Memory) left a right b = Unit {0}
