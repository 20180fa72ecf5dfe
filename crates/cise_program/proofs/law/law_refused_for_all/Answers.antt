use Rattle.cise_program.proofs.Agreement.{refused_for_all}
use Rattle.cise_program.proofs.law.law_refused_for_all.Goals as goal

pub returns : goal.returns
returns c = refused_for_all
