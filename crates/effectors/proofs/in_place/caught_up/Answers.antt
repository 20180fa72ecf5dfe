use Rattle.std.proofs.Common.{sym, ◌∙◌, ap}
use Rattle.std.specs.List.{list_all}
use Rattle.spec_core.specs.State.{reads}
use Rattle.spec_core.specs.Fits.{update_fits}
use Rattle.effectors.specs.Reaching.{with_updates}
use Rattle.effectors.proofs.Fitting.{call_updates}
use Rattle.effectors.proofs.Written.{written}
use Rattle.effectors.proofs.in_place.caught_up.Goals as goal

pub write_updates-requires-clause-updates : goal.write_updates-requires-clause-updates
write_updates-requires-clause-updates c =
    let d = c.args.spec.now in let w = c.args.world.now in let call = c.args.call.now in
    let u = call_updates d w call c.well_formed-2.ensures c.requires.world c.requires.call in
    ap (list_all (update_fits d w call.args)) c.updates_of.ensures ∙ u.fit

pub returns-in-Ok-true : goal.returns-in-Ok-true
returns-in-Ok-true c =
    let d = c.args.spec.now in let w = c.args.world.now in let call = c.args.call.now in let s = c.args.before in
    let u = call_updates d w call c.well_formed-2.ensures c.requires.world c.requires.call in
    record {
      alike = c.in-Ok-true.ensures.reads c.in-Ok-true.field-0-test
          ∙ (λ i. with_updates d w call.args (c.updates_of.ensures i) (c.requires.reads i) (reads s))
          ∙ written d w call s c.requires.before u
          ∙ sym c.requires.reads;
      fits = c.in-Ok-true.ensures.fits c.in-Ok-true.field-0-test;
    }
