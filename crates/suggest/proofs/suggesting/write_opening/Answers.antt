use Rattle.std.proofs.Common.{◌≡◌, subst, arith}
use Rattle.std.proofs.lemmas.Grind.{common_steps}
use Rattle.byte_ports.specs.Written.{IsText}
use Rattle.suggest.specs.Texts.{head_text}
use Rattle.suggest.proofs.suggesting.write_opening.Goals as goal

pub returns-clause-text : goal.returns-clause-text
returns-clause-text g c =
    let e : c.as_slice.result.now ≡ head_text c.args.spec.now = grind (arith, common_steps) in
    subst (λ t. IsText t (g.K.Sink.held c.args.out.now) (g.K.Sink.held c.write_text.new.out) c.write_text.result) e c.write_text.ensures.text
