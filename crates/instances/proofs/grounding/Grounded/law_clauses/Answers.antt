use Rattle.instances.proofs.Shared.{entry_clauses}
use Rattle.instances.proofs.grounding.Grounded.law_clauses.Goals as goal

pub returns : goal.returns
returns c = λ d h. entry_clauses d c.args.self.now h
