use Rattle.std.proofs.Common.{rules}
use Rattle.ground_groups.proofs.Gathered.{gathered}
use Rattle.ground_groups.proofs.gathering.constants.Goals as goal

pub returns-clause-constants : goal.returns-clause-constants
returns-clause-constants c =
    gathered c.args.spec.now c.args.ob.now c.in-Ok.value c.add_calls.new.sorts c.add_all_chosen.new.sorts c.add_constants.new.sorts c.in-Ok-add_calls.value c.in-Ok-add_all_chosen.value c.in-Ok-add_constants.value
    c.in-Ok.ensures (search rules) (search rules) (search rules) (search rules) (search rules) (search rules)
