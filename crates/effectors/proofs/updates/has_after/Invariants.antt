use Rattle.std.proofs.Common.{◌≡◌, true, drop}
use Rattle.std.specs.List.{list_all}
use Rattle.spec_core.specs.Fits.{update_fits}
use Rattle.effectors.specs.Effect.{has_after}
use Rattle.effectors.proofs.updates.has_after.Given as goal

abbrev pub invariant-loop-update : goal.invariant-loop-update
invariant-loop-update g l =
    let r = g.R.Readings.reads l.at in record {
      so_far : has_after l.world r l.args l.relation l.tuple (drop l.update-index l.updates) l.reading ≡ has_after l.world r l.args l.relation l.tuple l.updates (r.has l.relation l.tuple);
      fits : list_all (update_fits l.spec l.world l.args) (drop l.update-index l.updates) ≡ true;
    }
