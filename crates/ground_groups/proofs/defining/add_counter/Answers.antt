use Rattle.std.proofs.Common.{rules}
use Rattle.ground_numbers.specs.Stages.{stage_of}
use Rattle.stage_defs.specs.Settings.{readings_in, caller_in, count_defined}
use Rattle.ground_groups.proofs.Lists.{limited}
use Rattle.ground_groups.proofs.Defined.{some_count}
use Rattle.ground_groups.proofs.defining.add_counter.Goals as goal

pub returns : goal.returns
returns c =
    let q = c.args.reading.now in
    let g = c.args.grounding.now in
    limited c.within_limit.result g (record { atoms = c.add_count.new.atoms; formulas = c.add_count.new.out; alloc = g.alloc }) (count_defined q)
    (some_count (readings_in q.before) (caller_in q.before) q.updates.now (stage_of q.stage) q.number q.tuple.now)
    (search rules) c.within_limit.ensures
