use Rattle.implicants.proofs.Implied.{implied}
use Rattle.implicants.proofs.law_implicant.Goals as goal

pub returns : goal.returns
returns c = λ p values lits v i a. implied p.atoms values lits v a p.clauses i
