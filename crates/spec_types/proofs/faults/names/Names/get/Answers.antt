use Rattle.std.proofs.Common.{rules}
use Rattle.spec_types.proofs.Entries.{lookup_meaning}
use Rattle.spec_types.proofs.faults.names.Names.get.Goals as goal

pub returns : goal.returns
returns c = rw (← c.self.view_is, lookup_meaning c.self.inside.entries.entries c.args.name.now) (search rules)
