use Rattle.std.proofs.Common.{◌≡◌, ◌++◌, ℕ, List, sym, ap, subst, ◌∙◌}
use Rattle.proof_lines.specs.declared.line.Line.{Line}
use Rattle.report_bytes.specs.Bytes.{pieces}
use Rattle.report_lines.specs.declared.verdict.VerdictWord.TheVariants as word
use Rattle.report_lines.specs.Blocks.{verdict_format}
use Rattle.report_lines.specs.Words.{line_text}
use Rattle.report_upgrader.specs.UpgradedLogs.{upgraded}
use Rattle.report_upgrader.specs.declared.planning.Rewritten.{Rewritten}
use Rattle.report_upgrader.specs.Plans.{AreWritten}
use Rattle.report_upgrader.specs.Passing.{proved_text, IsPlanned}
use Rattle.report_upgrader.proofs.Gathered.{gathered_still, verdict_gathered}
use Rattle.report_upgrader.proofs.log_writing.write_log.Goals as goal

pub returns-in_default-clause-front : goal.returns-in_default-clause-front
returns-in_default-clause-front g c = λ ls long says whole rest before so. gathered_still whole before (g.K.Sink.held c.args.out.now) c.args.text.now.items (proved_text (upgraded ls) ++ rest) so

pub returns-in-Ok-write_verdict_word-clause-ok : goal.returns-in-Ok-write_verdict_word-clause-ok
returns-in-Ok-write_verdict_word-clause-ok g c = λ ls long says whole rest before so.
    let planned : IsPlanned ls c.args.count (pieces c.args.lines.bytes.now) c.as_slice.result.now =
    record { long = long; says = says; written = subst (λ (p : List Rewritten). AreWritten p ls) (sym c.as_slice.ensures.value) (c.in-Ok.ensures.plan ls long says) } in
    let verdict = c.in-Ok-write_verdict_word.ensures ∙ ap (λ (n : ℕ). c.args.text.now.items ++ line_text (verdict_format.put (word.Proved n))) (c.in-Ok.ensures.lines ls long says) in
    c.write_lines.ensures.ok ls planned whole rest before (verdict_gathered (upgraded ls) whole before (g.K.Sink.held c.args.out.now) c.args.text.now.items c.write_verdict_word.new.out.items rest so verdict)

pub returns-in-Ok-write_verdict_word-clause-front : goal.returns-in-Ok-write_verdict_word-clause-front
returns-in-Ok-write_verdict_word-clause-front g c = λ ls long says whole rest before so.
    let planned : IsPlanned ls c.args.count (pieces c.args.lines.bytes.now) c.as_slice.result.now =
    record { long = long; says = says; written = subst (λ (p : List Rewritten). AreWritten p ls) (sym c.as_slice.ensures.value) (c.in-Ok.ensures.plan ls long says) } in
    let verdict = c.in-Ok-write_verdict_word.ensures ∙ ap (λ (n : ℕ). c.args.text.now.items ++ line_text (verdict_format.put (word.Proved n))) (c.in-Ok.ensures.lines ls long says) in
    c.write_lines.ensures.front ls planned whole rest before (verdict_gathered (upgraded ls) whole before (g.K.Sink.held c.args.out.now) c.args.text.now.items c.write_verdict_word.new.out.items rest so verdict)

pub returns-in-Err-clause-front : goal.returns-in-Err-clause-front
returns-in-Err-clause-front g c = λ ls long says whole rest before so. gathered_still whole before (g.K.Sink.held c.args.out.now) c.args.text.now.items (proved_text (upgraded ls) ++ rest) so
