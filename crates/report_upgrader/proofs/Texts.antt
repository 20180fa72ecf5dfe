-- The text of what lines say.
use Rattle.std.proofs.Common.{◌≡◌, ℕ, List, [], ◌∷◌, ◌++◌, length, refl, sym, ap, ◌∙◌, append_assoc}
use Rattle.spec_core.specs.Specification.{Specification}
use Rattle.proof_lines.specs.declared.line.Line.{Line}
use Rattle.report_lines.specs.declared.verdict.VerdictWord.TheVariants as word
use Rattle.report_lines.specs.Words.{parts, line_text}
use Rattle.report_lines.specs.Blocks.{verdict_format}
use Rattle.report_lines.specs.Logs.{line_format}
use Rattle.report_lines.proofs.Splitting.{joined_parts}
use Rattle.proof_report.specs.declared.event.Event.{Event}
use Rattle.proof_report.specs.Verdicts.{proved}
use Rattle.proof_report.specs.Events.{log_lines, verdict_lines}
use Rattle.proof_report.specs.Texts.{log_text}
use Rattle.report_upgrader.specs.Passing.{text_of, proved_text}

log_before : (d : Specification) (ls : List Line) (es : List Event) → text_of d (log_lines ls es) ≡ log_text ls ++ text_of d es
log_before d [] es = refl
log_before d (l ∷ ls) es =
    ap (λ (x : List ℕ). line_text (line_format.put l) ++ x) (log_before d ls es) ∙ sym (append_assoc (line_text (line_format.put l)) (log_text ls) (text_of d es))

-- a proved verdict and its log, before other lines
pub proved_before : (d : Specification) (log : List Line) (es : List Event) → text_of d (verdict_lines (proved log) es) ≡ proved_text log ++ text_of d es
proved_before d log es =
    let first = line_text (verdict_format.put (word.Proved (length log))) in
    ap (λ (x : List ℕ). first ++ x) (log_before d log es) ∙ sym (append_assoc first (log_text log) (text_of d es))

pub text_same : (line : List ℕ) (ws : List (List ℕ)) → parts line ≡ ws → line_text ws ≡ line ++ 10 ∷ []
text_same line ws h = ap line_text (sym h) ∙ ap (λ (x : List ℕ). x ++ 10 ∷ []) (joined_parts line)
