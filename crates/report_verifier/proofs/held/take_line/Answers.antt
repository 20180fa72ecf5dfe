use Rattle.std.proofs.Common.{◌∙◌}
use Rattle.report_verifier.proofs.held.take_line.Goals as goal

pub returns-clause-noted : goal.returns-clause-noted
returns-clause-noted c = λ read. (c.new.result, (c.in_ok-push.ensures.items, (c.new.ensures.len ∙ c.in_ok-len.ensures, c.new.ensures.pair c.args.line.now c.in_ok-pair.ensures.is)))
