use Rattle.std.proofs.Common.{subst}
use Rattle.report_verifier.specs.Verifier.{VerifierForm, AreFed}
use Rattle.report_verifier.proofs.FedLines.{bytes_ended, not_read, ended_noted}
use Rattle.report_verifier.proofs.held.verify_bytes.Goals as goal

pub returns-in-Ok-clause-verified : goal.returns-in-Ok-clause-verified
returns-in-Ok-clause-verified c = λ d typed first.
    bytes_ended d c.args.bytes.now c.take_lines.new.verifier c.in-Ok.rest.now c.finish.result typed c.requires.few
    (subst (λ (v : VerifierForm). AreFed v c.args.bytes.now c.take_lines.new.verifier c.in-Ok.rest.now) first c.in-Ok.ensures.fed) c.finish.ensures

pub returns-in-Ok-clause-no_read : goal.returns-in-Ok-clause-no_read
returns-in-Ok-clause-no_read c = λ e. not_read c.take_lines.new.verifier c.in-Ok.rest.now c.finish.result c.finish.ensures e

pub returns-in-Ok-clause-noted : goal.returns-in-Ok-clause-noted
returns-in-Ok-clause-noted c = ended_noted c.take_lines.new.verifier c.in-Ok.rest.now c.finish.result c.take_lines.new.notes.items c.args.bytes.now c.finish.ensures c.in-Ok.ensures.noted c.in-Ok.ensures.over
