use Rattle.std.proofs.Common.{◌≡◌, ◌≤◌, ◌*◌, ◌+◌, ◌^◌, true, unsigned_abs, drop}
use Rattle.std.specs.List.{list_all}
use Rattle.spec_core.specs.Fits.{update_fits}
use Rattle.effectors.specs.Effect.{count_after}
use Rattle.effectors.proofs.updates.count_after.Given as goal

abbrev pub invariant-loop-update : goal.invariant-loop-update
invariant-loop-update g l =
    let r = g.R.Readings.reads l.at in record {
      so_far : count_after l.world r l.args l.counter l.key (drop l.update-index l.updates) l.value ≡ count_after l.world r l.args l.counter l.key l.updates (r.count l.counter l.key);
      small : unsigned_abs l.value ≤ 3 * 10 ^ 26 + l.update-index * (16 * (3 * 10 ^ 35));
      fits : list_all (update_fits l.spec l.world l.args) (drop l.update-index l.updates) ≡ true;
    }
