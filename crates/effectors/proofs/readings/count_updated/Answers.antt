use Rattle.std.proofs.Common.{length, ◌∙◌, ap, arith}
use Rattle.std.specs.List.{list_all}
use Rattle.spec_core.specs.Fits.{update_fits}
use Rattle.effectors.proofs.Fitting.{call_updates}
use Rattle.effectors.proofs.readings.count_updated.Goals as goal

pub count_after-requires-clause-fits : goal.count_after-requires-clause-fits
count_after-requires-clause-fits g c =
    let u = call_updates c.args.spec.now c.args.world.now c.args.call.now c.well_formed-2.ensures c.requires.world c.requires.call in
    (λ i. list_all (update_fits c.args.spec.now c.args.world.now (c.as_slice.ensures i)) (c.updates_of.ensures i)) ∙ u.fit

pub count_after-requires-clause-few : goal.count_after-requires-clause-few
count_after-requires-clause-few g c =
    let u = call_updates c.args.spec.now c.args.world.now c.args.call.now c.well_formed-2.ensures c.requires.world c.requires.call in
    let few = u.few in let e = ap length c.updates_of.ensures in omega arith
