use Rattle.cise_program.proofs.Contradictions.{never_contradict}
use Rattle.cise_program.proofs.law.law_verdicts_never_contradict.Goals as goal

pub returns : goal.returns
returns c = λ task other bytes more other_more text other_text j k a b.
    never_contradict task other bytes more other_more text other_text
    c.law_typed_is_well_formed.ensures
    (record { safe = c.law_safe.ensures.safe; breaks = c.law_good_verdicts.ensures.refuted; is_read = c.law_checked_is_read.ensures })
    (record { safe = c.law_accepted_is_safe.ensures.safe; breaks = c.law_refuted_breaks.ensures; keeps = c.law_upgraded_report_is_accepted.ensures })
    c.law_obligations.ensures.listed j k a b
