-- The numbers of rows, and their range.
use Rattle.std.specs.Prelude.{◌^◌, zero, suc, nat_lt, ℤ, pos, negsuc, Bool, true, false, cond, unsigned_abs, Option, Some, None}

-- the range of a row: from -(2^127 - 1) to 2^127 - 1
abbrev pub in_range : ℤ → Bool
in_range a = nat_lt (unsigned_abs a) (2 ^ 127)

-- a number, where it lies in the range of a row
abbrev pub fit : ℤ → Option ℤ
fit a = cond (in_range a) (Some a) None

-- a number is 0
abbrev pub is_zero : ℤ → Bool
is_zero (pos zero) = true
is_zero (pos (suc n)) = false
is_zero (negsuc n) = false
