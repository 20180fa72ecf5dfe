use Rattle.std.specs.Prelude.{Ok}
use Rattle.report_upgrader.proofs.laws.law_upgraded_report_is_verified.Goals as goal

pub returns : goal.returns
returns c = λ d bytes tally text result typed few up short all verified.
    c.law_one_answer.ensures d text result (Ok tally) typed all tt verified (short, c.law_upgraded_report_is_accepted.ensures d bytes tally text few up)
