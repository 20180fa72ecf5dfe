use Rattle.std.proofs.Common.{◌≡◌, refl, false, List}
use Rattle.proof_lines.specs.declared.clause.Lit.{Lit}
use Rattle.proof_lines.specs.declared.line.RowStep.{RowStep}
use Rattle.proof_lines.specs.declared.line.Line.TheVariants.{Resolve, Farkas, Split, Drop}
use Rattle.proof_lines.specs.declared.line.RangeWhat.{RangeWhat}
use Rattle.proof_lines.specs.declared.line.RangeWhat.TheVariants.{Product, Value, Sum}
use Rattle.report_lines.specs.Formats.{is_empty}
use Rattle.report_lines.specs.Logs.{log_format, line_format}
use Rattle.report_lines.specs.Evidence.{rows_format, of_what, range_words, range_format}
use Rattle.report_lines.proofs.WholeLines.{HasWord, line_of}
use Rattle.report_lines.proofs.LogLines.{log_exact, log_clean}
use Rattle.report_lines.proofs.EvidenceLines.{rows_exact, rows_clean, range_exact, range_clean}
use Rattle.report_lines.proofs.laws.law_logs.Goals as goal

line_word : HasWord line_format
line_word (Resolve left right pivot) = refl
line_word (Farkas used steps) = refl
line_word (Split place at used steps low high values) = refl
line_word (Drop clauses) = refl

pub returns-clause-log : goal.returns-clause-log
returns-clause-log c = λ drops. line_of (log_format drops) line_word (log_exact drops) (log_clean drops)

pub returns-clause-rows : goal.returns-clause-rows
returns-clause-rows c = line_of rows_format (λ a. refl) rows_exact rows_clean

what_word : (used : List Lit) (steps : List RowStep) (what : RangeWhat) → is_empty (range_words.put (of_what (used, steps) what)) ≡ false
what_word used steps (Product left right place) = refl
what_word used steps (Value row place values) = refl
what_word used steps (Sum row place values) = refl

range_word : HasWord range_format
range_word r = what_word r.used r.steps r.what

pub returns-clause-range : goal.returns-clause-range
returns-clause-range c = line_of range_format range_word range_exact range_clean
