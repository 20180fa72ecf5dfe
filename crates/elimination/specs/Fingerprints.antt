-- A number for each row, by which a row is looked up; it mirrors src/held.
use Rattle.std.specs.Prelude.{ℕ, ◌+◌, ◌*◌, ◌%◌, nat_eq, ℤ, cond, unsigned_abs}
use Rattle.std.specs.List.{fold}
use Rattle.std.specs.HashMap.{HashMap, get}
use Rattle.std.specs.Prelude.{Option}
use Rattle.lin_rows.specs.declared.term.RowTerm.{RowTerm}
use Rattle.lin_rows.specs.Rows.{Row}
use Rattle.line_rows.specs.Steps.{is_negative}

-- fingerprints are below this prime number
abbrev pub fingerprint_limit : ℕ
fingerprint_limit = 2147483647

-- the part of a number: its remainder, and more where it is negative
abbrev pub number_part : ℤ → ℕ
number_part a = unsigned_abs a % fingerprint_limit + cond (is_negative a) 1000003 0

-- a fingerprint so far, mixed with one term more
abbrev pub mixed : ℕ → RowTerm → ℕ
mixed so_far t = (so_far * 65599 + (t.place + number_part t.coef)) % fingerprint_limit

-- the fingerprint of a row: its bound, mixed with its terms in their order
unfoldable pub fingerprint : Row → ℕ
fingerprint r = fold mixed (number_part r.bound % fingerprint_limit) r.terms

-- the number of a row with a fingerprint, where there is one
abbrev pub found : {S : Type 0} → HashMap ℕ ℕ S → ℕ → Option ℕ
found numbers key = get nat_eq numbers key
