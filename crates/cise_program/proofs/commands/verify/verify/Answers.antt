use Rattle.cise_program.proofs.Ends.{verified_to_end}
use Rattle.cise_program.proofs.commands.verify.verify.Goals as goal

pub returns-in-Ok-clause-end : goal.returns-in-Ok-clause-end
returns-in-Ok-clause-end g c = λ below.
    verified_to_end c.args.spec.now (g.E.Source.left c.args.extra.now) (g.E.Source.left c.verify_all-said.new.report) c.verify_all-said.result c.in-Ok.text.items c.in-Ok.ensures.text
    c.verify_all-said.ensures.verified c.verify_all-said.ensures.end
