use Rattle.stage_defs.specs.Settings.{readings_in, caller_in}
use Rattle.ground_groups.specs.Calls.{constants_in}
use Rattle.ground_groups.proofs.Lists.{invariants_beyond}
use Rattle.ground_groups.proofs.entry.add_all.Goals as goal

pub returns-in-Err : goal.returns-in-Err
returns-in-Err c = invariants_beyond c.in-Err.refused c.args.grounding.now c.args.grounding.now (constants_in c.args.named.now) (readings_in c.args.setting.now) (caller_in c.args.setting.now) c.args.invariants.now c.in-Err.ensures
