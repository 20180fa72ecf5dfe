use Rattle.spec_core.proofs.Agreeing.{inv_agrees, pre_agrees, observed_agrees}
use Rattle.spec_core.proofs.laws.law_readings_that_agree.Goals as goal

pub returns-clause-inv : goal.returns-clause-inv
returns-clause-inv c = λ d w r s well world agree. inv_agrees d w r s well world agree

pub returns-clause-pre : goal.returns-clause-pre
returns-clause-pre c = λ d w r s call well world agree fits. pre_agrees d w r s well world agree call fits

pub returns-clause-observed : goal.returns-clause-observed
returns-clause-observed c = λ d w r s call well world agree fits. observed_agrees d w r s well world agree call fits
