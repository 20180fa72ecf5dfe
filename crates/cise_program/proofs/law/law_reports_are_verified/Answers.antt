use Rattle.cise_program.specs.Words.{job_of}
use Rattle.cise_program.proofs.Written.{verifies_alike}
use Rattle.cise_program.proofs.law.law_reports_are_verified.Goals as goal

pub returns : goal.returns
returns c = λ words told status text held outcome writes answer written.
    verifies_alike words told.spec told.extra status text held.before held.after c.law_typed_is_well_formed.ensures c.law_one_answer.ensures c.law_checked_is_verified.ensures c.law_upgraded_report_is_accepted.ensures
    outcome writes answer written
