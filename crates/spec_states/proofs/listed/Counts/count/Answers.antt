use Rattle.std.proofs.Common.{rules}
use Rattle.spec_states.proofs.Entries.{lookup_count}
use Rattle.spec_states.proofs.listed.Counts.count.Goals as goal

pub returns : goal.returns
returns c = rw (← c.self.view_is, lookup_count c.self.inside.entries.entries c.args.key.now) (search rules)
