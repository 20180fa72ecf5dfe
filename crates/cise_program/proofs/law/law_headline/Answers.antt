use Rattle.cise_program.proofs.Headline.{IsProved-zero, Refutes-answer}
use Rattle.cise_program.proofs.Stopped.{stops_rightly}
use Rattle.cise_program.proofs.Suggestions.{suggested_rightly}
use Rattle.cise_program.proofs.law.law_headline.Goals as goal

pub returns-clause-proved : goal.returns-clause-proved
returns-clause-proved c = λ words spec extra text judged answer.
    IsProved-zero words spec extra text
    c.law_typed_is_well_formed.ensures
    (record { safe = c.law_safe.ensures.safe; breaks = c.law_good_verdicts.ensures.refuted; is_read = c.law_checked_is_read.ensures })
    (record { safe = c.law_accepted_is_safe.ensures.safe; breaks = c.law_refuted_breaks.ensures; keeps = c.law_upgraded_report_is_accepted.ensures })
    judged answer

pub returns-clause-refuted : goal.returns-clause-refuted
returns-clause-refuted c = λ words told status text held outcome answer written.
    Refutes-answer words told.spec told.extra status text held.before held.after
    c.law_typed_is_well_formed.ensures
    (record { safe = c.law_safe.ensures.safe; breaks = c.law_good_verdicts.ensures.refuted; is_read = c.law_checked_is_read.ensures })
    (record { safe = c.law_accepted_is_safe.ensures.safe; breaks = c.law_refuted_breaks.ensures; keeps = c.law_upgraded_report_is_accepted.ensures })
    outcome answer written

pub returns-clause-stopped : goal.returns-clause-stopped
returns-clause-stopped c = λ words told held stopped.
    stops_rightly words told.spec told.extra held.before held.after
    c.law_typed_is_well_formed.ensures
    (record { safe = c.law_safe.ensures.safe; breaks = c.law_good_verdicts.ensures.refuted; is_read = c.law_checked_is_read.ensures })
    (record { safe = c.law_accepted_is_safe.ensures.safe; breaks = c.law_refuted_breaks.ensures; keeps = c.law_upgraded_report_is_accepted.ensures })
    (record { right = c.law_least_pairs.ensures.right; so_far = c.law_least_pairs.ensures.so_far; complete = c.law_least_pairs.ensures.complete })
    stopped

pub returns-clause-suggested : goal.returns-clause-suggested
returns-clause-suggested c = λ words told status text held suggestion outcome answer written.
    suggested_rightly words told.spec told.extra status text held.before held.after (record { right = c.law_least_pairs.ensures.right; so_far = c.law_least_pairs.ensures.so_far; complete = c.law_least_pairs.ensures.complete }) suggestion outcome answer written
