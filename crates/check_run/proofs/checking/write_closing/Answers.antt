use Rattle.std.proofs.Common.{◌≡◌, subst, arith}
use Rattle.std.proofs.lemmas.Grind.{common_steps}
use Rattle.proof_report.specs.Texts.{end_text}
use Rattle.byte_ports.specs.Written.{IsText}
use Rattle.check_run.proofs.checking.write_closing.Goals as goal

pub returns-clause-text : goal.returns-clause-text
returns-clause-text g c =
    let e : c.as_slice.result.now ≡ end_text c.args.tally = grind (arith, common_steps) in
    subst (λ t. IsText t (g.K.Sink.held c.args.out.now) (g.K.Sink.held c.write_text.new.out) c.write_text.result) e c.write_text.ensures.text
