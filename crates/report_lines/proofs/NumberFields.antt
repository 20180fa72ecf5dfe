-- The fields of numbers, and one of the names of a specification.
use Rattle.std.proofs.Common.{ℕ, lit≤}
use Rattle.std.specs.Prelude.{nat_lt}
use Rattle.word_cut.specs.Whole.{greatest}
use Rattle.spec_core.specs.Limits.{greatest_value, most_elements}
use Rattle.report_lines.specs.Formats.{Format, IsExact, IsClean, counted}
use Rattle.report_lines.specs.Fields.{most_count, count_format, integer_format, value_format, elements_format, element_format}
use Rattle.report_lines.proofs.Exact.{number_exact, whole_exact, only_exact, counted_exact}
use Rattle.report_lines.proofs.Clean.{number_clean, whole_clean, only_clean, counted_clean}

pub count_exact : IsExact count_format
count_exact = number_exact most_count (lit≤ tt)

pub count_clean : IsClean count_format
count_clean = number_clean most_count (lit≤ tt)

pub integer_exact : IsExact integer_format
integer_exact = whole_exact greatest (lit≤ tt)

pub integer_clean : IsClean integer_format
integer_clean = whole_clean greatest (lit≤ tt)

pub value_exact : IsExact value_format
value_exact = whole_exact greatest_value (lit≤ tt)

pub value_clean : IsClean value_format
value_clean = whole_clean greatest_value (lit≤ tt)

pub elements_exact : IsExact elements_format
elements_exact = number_exact most_elements (lit≤ tt)

pub elements_clean : IsClean elements_format
elements_clean = number_clean most_elements (lit≤ tt)

pub element_exact : (size : ℕ) → IsExact (element_format size)
element_exact size = only_exact (λ e. nat_lt e size) count_format count_exact

pub element_clean : (size : ℕ) → IsClean (element_format size)
element_clean size = only_clean (λ e. nat_lt e size) count_format count_clean

-- a list behind its length
pub list_exact : {A : Type 0} (f : Format A) → IsExact f → IsExact (counted most_count f)
list_exact f x = counted_exact most_count f (lit≤ tt) x

pub list_clean : {A : Type 0} (f : Format A) → IsClean f → IsClean (counted most_count f)
list_clean f x = counted_clean most_count f (lit≤ tt) x
