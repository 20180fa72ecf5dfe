-- The lines of evidence of an undecided verdict.
use Rattle.std.specs.Prelude.{ℕ, ℤ, List, [], ◌∷◌, ◌⊎◌, codes}
use Rattle.std.specs.Fmt.{decimal}
use Rattle.std.proofs.Common.{inl, inr}
use Rattle.proof_lines.specs.declared.clause.Lit.{Lit}
use Rattle.proof_lines.specs.declared.line.RowStep.{RowStep}
use Rattle.proof_lines.specs.declared.line.RangeWhat.{RangeWhat}
use Rattle.proof_lines.specs.declared.line.RangeWhat.TheVariants.{Product, Value, Sum}
use Rattle.report_lines.specs.declared.evidence.RowsLine.{RowsLine}
use Rattle.report_lines.specs.declared.evidence.RangeLine.{RangeLine}
use Rattle.report_lines.specs.Formats.{Format, both, behind, seen, or_else}
use Rattle.report_lines.specs.Fields.{count_format}
use Rattle.report_lines.specs.Logs.{used_words, decision_words}

-- ---- too many rows

-- the evidence of rows of its parts
abbrev pub to_rows : List Lit × List RowStep → RowsLine
to_rows x = record { used = x.0; steps = x.1 }

-- the parts of the evidence of rows
abbrev pub of_rows : RowsLine → List Lit × List RowStep
of_rows r = (r.used, r.steps)

-- `rows`, the used literals and the steps
abbrev pub rows_format : Format RowsLine
rows_format = behind (codes "rows") (seen to_rows of_rows used_words)

-- ---- a number beyond the range

-- behind `product`: the used literals and the steps, two rows, and the place that is cancelled
abbrev pub product_words : Format ((List Lit × List RowStep) × (ℕ × (ℕ × ℕ)))
product_words = both used_words (both count_format (both count_format count_format))

-- behind `value` and `sum`: the used literals and the steps, a row, a place, and the values behind their number
abbrev pub values_words : Format ((List Lit × List RowStep) × (ℕ × (ℕ × List ℤ)))
values_words = both used_words decision_words

-- the parts of the evidence of a range, by its first word
abbrev pub RangeParts : Type 0
RangeParts =
    ((List Lit × List RowStep) × (ℕ × (ℕ × ℕ)))
    ⊎ (((List Lit × List RowStep) × (ℕ × (ℕ × List ℤ)))
    ⊎ ((List Lit × List RowStep) × (ℕ × (ℕ × List ℤ))))

-- the evidence of these parts
abbrev pub to_range : RangeParts → RangeLine
to_range (inl x) = record { used = x.0.0; steps = x.0.1; what = Product x.1.0 x.1.1.0 x.1.1.1 }
to_range (inr (inl x)) = record { used = x.0.0; steps = x.0.1; what = Value x.1.0 x.1.1.0 x.1.1.1 }
to_range (inr (inr x)) = record { used = x.0.0; steps = x.0.1; what = Sum x.1.0 x.1.1.0 x.1.1.1 }

-- the parts, by what leaves the range
abbrev pub of_what : List Lit × List RowStep → RangeWhat → RangeParts
of_what rows (Product left right place) = inl (rows, (left, (right, place)))
of_what rows (Value row place values) = inr (inl (rows, (row, (place, values))))
of_what rows (Sum row place values) = inr (inr (rows, (row, (place, values))))

-- the parts of the evidence of a range
abbrev pub of_range : RangeLine → RangeParts
of_range r = of_what (r.used, r.steps) r.what

-- the first word of the evidence of a range, by what leaves it
abbrev pub range_word : RangeWhat → List ℕ
range_word (Product left right place) = codes "product"
range_word (Value row place values) = codes "value"
range_word (Sum row place values) = codes "sum"

-- its last words, behind the used literals and the steps: what leaves the range
abbrev pub what_words : RangeWhat → List (List ℕ)
what_words (Product left right place) = decimal left ∷ decimal right ∷ decimal place ∷ []
what_words (Value row place values) = decision_words.put (row, (place, values))
what_words (Sum row place values) = decision_words.put (row, (place, values))

-- the words of the evidence of a range
abbrev pub range_words : Format RangeParts
range_words =
    or_else (codes "product") product_words (or_else (codes "value") values_words
    (behind (codes "sum") values_words))

-- `product ..`, `value ..` or `sum ..`
abbrev pub range_format : Format RangeLine
range_format = seen to_range of_range range_words
