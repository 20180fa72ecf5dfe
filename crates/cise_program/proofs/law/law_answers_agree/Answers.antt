use Rattle.cise_program.proofs.Agreement.{answers_to_one_agree}
use Rattle.cise_program.proofs.law.law_answers_agree.Goals as goal

pub returns : goal.returns
returns c = λ words spec extra status other_status text other_text a b.
    answers_to_one_agree words spec extra status other_status text other_text c.law_typed_is_well_formed.ensures c.law_one_answer.ensures
    (record { well_formed = c.law_sample_is_well_formed.ensures; holds = c.law_good_verdicts.ensures.proved; breaks = c.law_good_verdicts.ensures.refuted }) a b
