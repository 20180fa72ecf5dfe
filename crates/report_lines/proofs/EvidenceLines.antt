-- The lines of evidence are exact and clean.
use Rattle.std.proofs.Common.{◌≡◌, ℕ, List, ◌∷◌, ◌++◌, inl, inr, refl}
use Rattle.std.specs.Prelude.{codes, ℤ}
use Rattle.proof_lines.specs.declared.clause.Lit.{Lit}
use Rattle.proof_lines.specs.declared.line.RowStep.{RowStep}
use Rattle.proof_lines.specs.declared.line.RangeWhat.{RangeWhat}
use Rattle.proof_lines.specs.declared.line.RangeWhat.TheVariants.{Product, Value, Sum}
use Rattle.report_lines.specs.Formats.{Format, IsExact, IsClean, behind}
use Rattle.report_lines.specs.Fields.{integer_format}
use Rattle.report_lines.specs.Logs.{used_words}
use Rattle.report_lines.specs.Evidence.{to_rows, of_rows, rows_format, product_words, values_words, RangeParts, to_range, of_what, of_range, range_word, what_words, range_words, range_format}
use Rattle.report_lines.proofs.Exact.{chain_exact, behind_exact, seen_exact, or_exact, or_apart, behind_apart}
use Rattle.report_lines.proofs.Clean.{chain_clean, behind_clean, seen_clean, or_clean}
use Rattle.report_lines.proofs.NumberFields.{count_exact, count_clean, integer_exact, integer_clean, list_exact, list_clean}
use Rattle.report_lines.proofs.LogLines.{used_exact, used_clean}

pub rows_exact : IsExact rows_format
rows_exact = behind_exact _ _ (seen_exact to_rows of_rows used_words (λ a. refl) (λ b. refl) used_exact)

pub rows_clean : IsClean rows_format
rows_clean = behind_clean _ _ refl (seen_clean to_rows of_rows used_words used_clean)

product_exact : IsExact product_words
product_exact = chain_exact _ _ used_exact (λ a. chain_exact _ _ count_exact (λ b. chain_exact _ _ count_exact (λ c. count_exact)))

product_clean : IsClean product_words
product_clean = chain_clean _ _ used_clean (λ a. chain_clean _ _ count_clean (λ b. chain_clean _ _ count_clean (λ c. count_clean)))

values_exact : IsExact values_words
values_exact = chain_exact _ _ used_exact (λ a. chain_exact _ _ count_exact (λ b. chain_exact _ _ count_exact (λ c. list_exact integer_format integer_exact)))

values_clean : IsClean values_words
values_clean = chain_clean _ _ used_clean (λ a. chain_clean _ _ count_clean (λ b. chain_clean _ _ count_clean (λ c. list_clean integer_format integer_clean)))

abbrev sum_line : Format ((List Lit × List RowStep) × (ℕ × (ℕ × List ℤ)))
sum_line = behind (codes "sum") values_words

range_words_exact : IsExact range_words
range_words_exact =
    or_exact _ product_words _ (or_apart _ _ values_words sum_line refl (behind_apart _ _ values_words refl)) product_exact
    (or_exact _ values_words sum_line (behind_apart _ _ values_words refl) values_exact (behind_exact _ values_words values_exact))

range_words_clean : IsClean range_words
range_words_clean = or_clean _ product_words _ refl product_clean (or_clean _ values_words _ refl values_clean (behind_clean _ values_words refl values_clean))

range_back : (a : RangeParts) → of_range (to_range a) ≡ a
range_back (inl x) = refl
range_back (inr (inl x)) = refl
range_back (inr (inr x)) = refl

what_there : (used : List Lit) (steps : List RowStep) (what : RangeWhat) → to_range (of_what (used, steps) what) ≡ record { used = used; steps = steps; what = what }
what_there used steps (Product left right place) = refl
what_there used steps (Value row place values) = refl
what_there used steps (Sum row place values) = refl

pub range_exact : IsExact range_format
range_exact = seen_exact to_range of_range range_words range_back (λ r. what_there r.used r.steps r.what) range_words_exact

pub range_clean : IsClean range_format
range_clean = seen_clean to_range of_range range_words range_words_clean

-- the words of the evidence of a range, as they are written: the first one, the used literals and the steps, and what leaves the range
pub range_put : (used : List Lit) (steps : List RowStep) (what : RangeWhat)
    → range_word what ∷ used_words.put (used, steps) ++ what_words what ≡ range_format.put (record { used = used; steps = steps; what = what })
range_put used steps (Product left right place) = refl
range_put used steps (Value row place values) = refl
range_put used steps (Sum row place values) = refl
