use Rattle.std.specs.Prelude.{Ok}
use Rattle.cise_program.proofs.checked.law_checked_has_one_answer.Goals as goal

pub returns : goal.returns
returns c = λ d budget tally text x typed least most checked short verified all.
    c.law_one_answer.ensures d text x (Ok tally) typed all tt verified (c.law_checked_is_verified.ensures d budget tally text typed least most checked short)
