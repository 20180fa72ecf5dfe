use Rattle.cise_program.specs.Words.{job_of}
use Rattle.cise_program.proofs.Refusals.{refused_rightly}
use Rattle.cise_program.proofs.law.law_least_fault_is_answered.Goals as goal

pub returns : goal.returns
returns c = λ words told text held reads answer written.
    refused_rightly (job_of words) told.spec told.extra text held.before held.after c.law_least_refusal.ensures.refused reads answer written
