use Rattle.effectors.proofs.Agreeing.{after_agrees}
use Rattle.effectors.proofs.law.law_effects_that_agree.Goals as goal

pub returns : goal.returns
returns c = λ d w call r s well world is agree. after_agrees d w call r s well world is agree
