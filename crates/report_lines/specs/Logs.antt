-- The lines of a log.
use Rattle.std.specs.Prelude.{ℕ, Bool, true, false, ℤ, List, ◌⊎◌, codes}
use Rattle.std.proofs.Common.{inl, inr}
use Rattle.proof_lines.specs.declared.clause.Lit.{Lit}
use Rattle.proof_lines.specs.declared.line.RowStep.{RowStep}
use Rattle.proof_lines.specs.declared.line.Line.{Line}
use Rattle.proof_lines.specs.declared.line.Line.TheVariants.{Resolve, Farkas, Split, Drop}
use Rattle.report_lines.specs.Formats.{Format, both, behind, seen, only, or_else, counted}
use Rattle.report_lines.specs.Fields.{most_count, count_format, integer_format}
use Rattle.report_lines.specs.Entries.{literal_format, step_format}

-- ---- used literals and steps

-- the used literals behind their number, and the steps behind theirs
abbrev pub used_words : Format (List Lit × List RowStep)
used_words = both (counted most_count literal_format) (counted most_count step_format)

-- ---- lines

-- behind `r`: the left clause, the right clause and the pivot
abbrev pub resolve_words : Format (ℕ × (ℕ × ℕ))
resolve_words = both count_format (both count_format count_format)

-- behind the rows of a Split: the two rows that decide, and the values behind their number
abbrev pub decision_words : Format (ℕ × (ℕ × List ℤ))
decision_words = both count_format (both count_format (counted most_count integer_format))

-- behind `s`: the place and its number, the used literals and the steps, and what decides
abbrev pub split_words : Format (ℕ × (ℤ × ((List Lit × List RowStep) × (ℕ × (ℕ × List ℤ)))))
split_words = both count_format (both integer_format (both used_words decision_words))

-- behind `d`: the clauses behind their number
abbrev pub drop_words : Format (List ℕ)
drop_words = counted most_count count_format

-- the parts of a line of a log, by its first word
abbrev pub LineParts : Type 0
LineParts =
    (ℕ × (ℕ × ℕ)) ⊎ ((List Lit × List RowStep)
    ⊎ ((ℕ × (ℤ × ((List Lit × List RowStep) × (ℕ × (ℕ × List ℤ))))) ⊎ List ℕ))

-- the line of these parts
abbrev pub to_line : LineParts → Line
to_line (inl x) = Resolve x.0 x.1.0 x.1.1
to_line (inr (inl x)) = Farkas x.0 x.1
to_line (inr (inr (inl x))) = Split x.0 x.1.0 x.1.1.0.0 x.1.1.0.1 x.1.1.1.0 x.1.1.1.1.0 x.1.1.1.1.1
to_line (inr (inr (inr cs))) = Drop cs

-- the parts of a line
abbrev pub of_line : Line → LineParts
of_line (Resolve left right pivot) = inl (left, (right, pivot))
of_line (Farkas used steps) = inr (inl (used, steps))
of_line (Split place at used steps low high values) =
    inr (inr (inl (place, (at, ((used, steps), (low, (high, values)))))))
of_line (Drop clauses) = inr (inr (inr clauses))

-- the words of a line, by its first
abbrev pub line_words : Format LineParts
line_words =
    or_else (codes "r") resolve_words (or_else (codes "f") used_words
    (or_else (codes "s") split_words (behind (codes "d") drop_words)))

-- `r C D A`, `f ..`, `s ..` or `d ..`
abbrev pub line_format : Format Line
line_format = seen to_line of_line line_words

-- a line that may stand in a log: a Drop line only where clauses may be dropped
abbrev pub may_stand : Bool → Line → Bool
may_stand true l = true
may_stand false (Resolve left right pivot) = true
may_stand false (Farkas used steps) = true
may_stand false (Split place at used steps low high values) = true
may_stand false (Drop clauses) = false

-- the lines of a log in which clauses may be dropped, or may not
abbrev pub log_format : Bool → Format Line
log_format drops = only (may_stand drops) line_format
