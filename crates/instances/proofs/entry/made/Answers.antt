use Rattle.ground_problem.specs.Entry.{invariants_hold}
use Rattle.ground_groups.specs.Calls.{constants_in}
use Rattle.instances.proofs.Shared.{made_below}
use Rattle.instances.proofs.entry.made.Goals as goal

pub clauses_of-requires : goal.clauses_of-requires
clauses_of-requires c =
    made_below c.add_invariants-added.result c.in-Ok.value c.new-grounding.result c.add_invariants-added.new.grounding
    (invariants_hold c.args.spec.now (constants_in c.args.named.now)) c.in-Ok.is c.new-grounding.ensures.formulas c.add_invariants-added.ensures
