use Rattle.std.proofs.Common.{◌≡◌, true, drop}
use Rattle.std.specs.List.{list_all}
use Rattle.spec_core.specs.State.{reads}
use Rattle.spec_core.specs.Fits.{is_state, update_fits}
use Rattle.effectors.specs.Reaching.{with_updates, updates_in_range}
use Rattle.effectors.proofs.writing.write_updates.Given as goal

abbrev pub invariant-loop-update : goal.invariant-loop-update
invariant-loop-update g l =
    let n = g.R.Readings.reads l.from in record {
      so_far : with_updates l.spec l.world l.call.args (drop l.update-index l.updates) n (reads l.new) ≡ with_updates l.spec l.world l.call.args l.updates n (reads l.fn.new);
      range : updates_in_range l.spec l.world l.call.args (drop l.update-index l.updates) n ≡ updates_in_range l.spec l.world l.call.args l.updates n;
      fits : is_state l.spec l.world l.new ≡ true;
      rest : list_all (update_fits l.spec l.world l.call.args) (drop l.update-index l.updates) ≡ true;
    }
