-- The lines of a log are exact and clean.
use Rattle.std.proofs.Common.{◌≡◌, ℕ, Bool, List, inl, inr, refl}
use Rattle.std.specs.Prelude.{codes}
use Rattle.proof_lines.specs.declared.line.Line.{Line}
use Rattle.proof_lines.specs.declared.line.Line.TheVariants.{Resolve, Farkas, Split, Drop}
use Rattle.report_lines.specs.Formats.{Format, IsExact, IsClean, behind}
use Rattle.report_lines.specs.Fields.{count_format, integer_format}
use Rattle.report_lines.specs.Entries.{literal_format, step_format}
use Rattle.report_lines.specs.Logs.{used_words, resolve_words, decision_words, split_words, drop_words, LineParts, to_line, of_line, line_words, line_format, may_stand, log_format}
use Rattle.report_lines.proofs.Exact.{chain_exact, behind_exact, seen_exact, only_exact, or_exact, or_apart, behind_apart}
use Rattle.report_lines.proofs.Clean.{chain_clean, behind_clean, seen_clean, only_clean, or_clean}
use Rattle.report_lines.proofs.NumberFields.{count_exact, count_clean, integer_exact, integer_clean, list_exact, list_clean}
use Rattle.report_lines.proofs.EntryWords.{literal_exact, literal_clean, step_exact, step_clean}

-- ---- used literals and steps

pub used_exact : IsExact used_words
used_exact = chain_exact _ _ (list_exact literal_format literal_exact) (λ a. list_exact step_format step_exact)

pub used_clean : IsClean used_words
used_clean = chain_clean _ _ (list_clean literal_format literal_clean) (λ a. list_clean step_format step_clean)

-- ---- lines

resolve_exact : IsExact resolve_words
resolve_exact = chain_exact _ _ count_exact (λ a. chain_exact _ _ count_exact (λ b. count_exact))

resolve_clean : IsClean resolve_words
resolve_clean = chain_clean _ _ count_clean (λ a. chain_clean _ _ count_clean (λ b. count_clean))

decision_exact : IsExact decision_words
decision_exact = chain_exact _ _ count_exact (λ a. chain_exact _ _ count_exact (λ b. list_exact integer_format integer_exact))

decision_clean : IsClean decision_words
decision_clean = chain_clean _ _ count_clean (λ a. chain_clean _ _ count_clean (λ b. list_clean integer_format integer_clean))

split_exact : IsExact split_words
split_exact = chain_exact _ _ count_exact (λ a. chain_exact _ _ integer_exact (λ b. chain_exact _ _ used_exact (λ c. decision_exact)))

split_clean : IsClean split_words
split_clean = chain_clean _ _ count_clean (λ a. chain_clean _ _ integer_clean (λ b. chain_clean _ _ used_clean (λ c. decision_clean)))

drop_exact : IsExact drop_words
drop_exact = list_exact count_format count_exact

drop_clean : IsClean drop_words
drop_clean = list_clean count_format count_clean

abbrev drop_line : Format (List ℕ)
drop_line = behind (codes "d") drop_words

line_words_exact : IsExact line_words
line_words_exact =
    or_exact _ resolve_words _ (or_apart _ _ used_words _ refl (or_apart _ _ split_words drop_line refl (behind_apart _ _ drop_words refl))) resolve_exact
    (or_exact _ used_words _ (or_apart _ _ split_words drop_line refl (behind_apart _ _ drop_words refl)) used_exact
    (or_exact _ split_words drop_line (behind_apart _ _ drop_words refl) split_exact (behind_exact _ drop_words drop_exact)))

line_words_clean : IsClean line_words
line_words_clean = or_clean _ resolve_words _ refl resolve_clean (or_clean _ used_words _ refl used_clean (or_clean _ split_words _ refl split_clean (behind_clean _ drop_words refl drop_clean)))

line_back : (a : LineParts) → of_line (to_line a) ≡ a
line_back (inl x) = refl
line_back (inr (inl x)) = refl
line_back (inr (inr (inl x))) = refl
line_back (inr (inr (inr cs))) = refl

line_there : (l : Line) → to_line (of_line l) ≡ l
line_there (Resolve left right pivot) = refl
line_there (Farkas used steps) = refl
line_there (Split place at used steps low high values) = refl
line_there (Drop clauses) = refl

pub line_exact : IsExact line_format
line_exact = seen_exact to_line of_line line_words line_back line_there line_words_exact

pub line_clean : IsClean line_format
line_clean = seen_clean to_line of_line line_words line_words_clean

pub log_exact : (drops : Bool) → IsExact (log_format drops)
log_exact drops = only_exact (may_stand drops) line_format line_exact

pub log_clean : (drops : Bool) → IsClean (log_format drops)
log_clean drops = only_clean (may_stand drops) line_format line_clean
