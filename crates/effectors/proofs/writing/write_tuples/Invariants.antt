use Rattle.std.proofs.Common.{◌≡◌, true, drop}
use Rattle.std.specs.List.{list_all}
use Rattle.spec_core.specs.Specification.{relation_places}
use Rattle.spec_core.specs.State.{reads}
use Rattle.spec_core.specs.Fits.{fits_places, is_state}
use Rattle.effectors.specs.Reaching.{with_tuples}
use Rattle.effectors.proofs.writing.write_tuples.Given as goal

abbrev pub invariant-loop-tuple : goal.invariant-loop-tuple
invariant-loop-tuple g l =
    let n = g.R.Readings.reads l.from in record {
      so_far : with_tuples l.relation (drop l.tuple-index l.tuples) n (reads l.new) ≡ with_tuples l.relation l.tuples n (reads l.fn.new);
      fits : is_state l.spec l.world l.new ≡ true;
      rest : list_all (fits_places l.world (relation_places l.spec l.relation)) (drop l.tuple-index l.tuples) ≡ true;
    }
