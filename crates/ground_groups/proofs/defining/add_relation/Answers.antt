use Rattle.std.proofs.Common.{rules}
use Rattle.stage_defs.specs.Settings.{readings_in, caller_in, has_defined, itself}
use Rattle.ground_groups.proofs.Lists.{limited}
use Rattle.ground_groups.proofs.Defined.{some_has}
use Rattle.ground_groups.proofs.defining.add_relation.Goals as goal

pub returns : goal.returns
returns c =
    let q = c.args.reading.now in
    let g = c.args.grounding.now in
    limited c.within_limit.result g (record { atoms = c.add_has.new.atoms; formulas = c.add_has.new.out; alloc = g.alloc }) (has_defined q)
    (some_has (readings_in q.before) (caller_in q.before) q.updates.now (itself q) q.number q.tuple.now)
    (search rules) c.within_limit.ensures
