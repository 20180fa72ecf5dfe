use Rattle.lazy_ground.proofs.Entries.{entry_some}
use Rattle.lazy_ground.proofs.grounding.entry_of.Goals as goal

pub returns-in-Some-clause-entry : goal.returns-in-Some-clause-entry
returns-in-Some-clause-entry c = λ d h. entry_some d c.args.sorts c.args.atoms c.args.formulas c.args.part c.in-Some.part c.in-Some.is h
