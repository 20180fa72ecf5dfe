use Rattle.spec_states.proofs.Agreeing.{text_agrees}
use Rattle.spec_states.proofs.laws.law_texts_that_agree.Goals as goal

pub returns : goal.returns
returns c = λ d w r s agree. text_agrees d w r s agree
