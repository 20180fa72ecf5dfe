-- The fields of numbers in a line.
use Rattle.std.specs.Prelude.{ℕ, nat_lt, ℤ}
use Rattle.word_cut.specs.Whole.{greatest}
use Rattle.spec_core.specs.Limits.{greatest_value, most_elements}
use Rattle.report_lines.specs.Formats.{Format, number, whole, only}

-- the most that a count, and a number of a clause, a row, an atom or a name can be
abbrev pub most_count : ℕ
most_count = 4294967295

-- a count, or the number of a clause, a row, an atom or a name
abbrev pub count_format : Format ℕ
count_format = number most_count

-- a multiplier, a bound or a value: whole numbers in the range of a row
abbrev pub integer_format : Format ℤ
integer_format = whole greatest

-- a value or an argument: whole numbers in the range of a state
abbrev pub value_format : Format ℤ
value_format = whole greatest_value

-- the size of a sort
abbrev pub elements_format : Format ℕ
elements_format = number most_elements

-- an element of a sort of this size
abbrev pub element_format : ℕ → Format ℕ
element_format size = only (λ e. nat_lt e size) count_format
