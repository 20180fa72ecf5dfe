use Rattle.std.proofs.Common.{List, ℕ, subst}
use Rattle.report_verifier.specs.Verifier.{IsEnded}
use Rattle.report_verifier.proofs.FedLines.{taken_ended, too_long, not_told}
use Rattle.report_verifier.proofs.verifying.verify_lines.Goals as goal

pub returns-in-Ok-clause-verified : goal.returns-in-Ok-clause-verified
returns-in-Ok-clause-verified g c = λ d typed first.
    taken_ended d (g.E.Source.left c.args.report.now) (g.E.Source.left c.read_pieces.new.report) c.args.verifier.now c.read_pieces.new.verifier c.read_pieces.new.line.items c.finish.result
    typed first c.in-Ok.ensures.taken c.in-Ok.ensures.end
    (subst (λ (line : List ℕ). IsEnded c.read_pieces.new.verifier line c.finish.result) c.as_slice.ensures.value c.finish.ensures)

pub returns-in-Err-TooLong-clause-verified : goal.returns-in-Err-TooLong-clause-verified
returns-in-Err-TooLong-clause-verified g c = λ d typed first.
    too_long d (g.E.Source.left c.args.report.now) (c.in-Err-TooLong.ensures.too_long (let e = c.in-Err-TooLong.field-0-is in cc))

pub returns-in-Err-Fault-clause-verified : goal.returns-in-Err-Fault-clause-verified
returns-in-Err-Fault-clause-verified g c = λ d typed first. (not_told d (g.E.Source.left c.args.report.now)).1

pub returns-in-Err-Memory-clause-verified : goal.returns-in-Err-Memory-clause-verified
returns-in-Err-Memory-clause-verified g c = λ d typed first. (not_told d (g.E.Source.left c.args.report.now)).0
