use Rattle.std.proofs.Common.{◌≡◌, true, drop}
use Rattle.std.specs.List.{list_all}
use Rattle.spec_core.specs.Specification.{counter_keys}
use Rattle.spec_core.specs.State.{reads}
use Rattle.spec_core.specs.Fits.{in_state_range, fits_places, is_state}
use Rattle.effectors.specs.Reaching.{with_keys}
use Rattle.effectors.proofs.writing.write_keys.Given as goal

abbrev pub invariant-loop-key : goal.invariant-loop-key
invariant-loop-key g l =
    let n = g.R.Readings.reads l.from in record {
      so_far : with_keys l.counter (drop l.key-index l.keys) n (reads l.new) ≡ with_keys l.counter l.keys n (reads l.fn.new);
      range : list_all (λ t. in_state_range (n.count l.counter t)) (drop l.key-index l.keys) ≡ list_all (λ t. in_state_range (n.count l.counter t)) l.keys;
      fits : is_state l.spec l.world l.new ≡ true;
      rest : list_all (fits_places l.world (counter_keys l.spec l.counter)) (drop l.key-index l.keys) ≡ true;
    }
