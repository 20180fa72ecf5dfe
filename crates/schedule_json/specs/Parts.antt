-- What is asked of the parts of a JSON value.
use Rattle.std.specs.Prelude.{ℕ, ℤ, pos, negsuc, Bool, false, ◌&&◌, ◌==◌, List, length, Option, None, Some, is_some, option_map, option_and_then}
use Rattle.std.specs.List.{list_all}
use Rattle.serde_json.specs.Data.{Data}
use Rattle.serde_json.specs.Find.{get, as_number, as_i64, as_object}
use Rattle.serde_json.specs.Events.{members_len}

-- ---- numbers

-- A whole number: one of 64 bits with a sign, written without a point and without an exponent.
abbrev pub whole : Data → Option ℤ
whole v = option_and_then as_i64 (as_number v)

-- a whole number, where it isn't negative
abbrev pub not_negative : ℤ → Option ℕ
not_negative (pos n) = Some n
not_negative (negsuc n) = None

-- a whole number that isn't negative
abbrev pub natural : Data → Option ℕ
natural v = option_and_then not_negative (whole v)

-- ---- objects

-- how many members an object has
abbrev pub member_count : Data → Option ℕ
member_count v = option_map members_len (as_object v)

-- there is a count, and it is this one
abbrev pub is_count : ℕ → Option ℕ → Bool
is_count n None = false
is_count n (Some count) = count == n

-- a member at each of these keys
abbrev pub has_each : List (List ℕ) → Data → Bool
has_each keys v = list_all (λ key. is_some (get key v)) keys

-- An object with exactly these keys, which differ: it has a member at each of them, and no more members. An object has each of
-- its keys once.
abbrev pub has_exactly : List (List ℕ) → Data → Bool
has_exactly keys v = is_count (length keys) (member_count v) && has_each keys v
