-- Which texts spell whole numbers, and which numbers.
use Rattle.std.specs.Prelude.{ℕ, ◌+◌, ◌*◌, ◌-◌, Bool, false, ◌==◌, nat_le, ◌&&◌, not, if◌then◌else◌, List, [], ◌∷◌, Option, Some, None, ℤ, pos, neg_ℤ, unsigned_abs, codes}
use Rattle.std.specs.Str.{bytes_eq}
use Rattle.word_cut.specs.Texts.{is_number}

-- the number that digits write behind those of n
abbrev pub digits_behind : ℕ → List ℕ → ℕ
digits_behind n [] = n
digits_behind n (b ∷ bs) = digits_behind (10 * n + (b - 48)) bs

-- the number that digits write
abbrev pub number_of : List ℕ → ℕ
number_of text = digits_behind 0 text

-- a number, or a - before a number that is not 0
abbrev pub is_whole : List ℕ → Bool
is_whole [] = false
is_whole (b ∷ bs) =
    if b == 45 then (is_number bs && not (bytes_eq bs (codes "0"))) else is_number (b ∷ bs)

-- the whole number that such a text writes
abbrev pub whole_of : List ℕ → ℤ
whole_of [] = pos 0
whole_of (b ∷ bs) = if b == 45 then neg_ℤ (pos (number_of bs)) else pos (number_of (b ∷ bs))

-- the greatest size of a number that is read, 2^127 - 1
abbrev pub greatest : ℕ
greatest = 170141183460469231731687303715884105727

-- the whole number that a text writes, if it writes one and its size isn't too great
abbrev pub read_of : List ℕ → Option ℤ
read_of text =
    if (is_whole text && nat_le (unsigned_abs (whole_of text)) greatest) then Some (whole_of text)
    else None

-- the number without a sign that a text writes, if it writes one and it isn't too great
abbrev pub size_read : List ℕ → Option ℕ
size_read text =
    if (is_number text && nat_le (number_of text) greatest) then Some (number_of text) else None
