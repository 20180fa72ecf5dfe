use Rattle.std.proofs.Common.{◌++◌, ap, ◌∙◌}
use Rattle.spec_states.proofs.Texts.{text_of_readings}
use Rattle.spec_states.proofs.state.write_state.Goals as goal

pub returns-clause-text : goal.returns-clause-text
returns-clause-text c = λ w fit. c.in_ok-write_listed.ensures.ok ∙ ap (λ text. c.args.out.now.items ++ text) (text_of_readings c.args.spec.now w c.args.state.now fit c.write_listed.ensures.rising)
