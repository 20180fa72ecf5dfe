use Rattle.std.proofs.Common.{◌+◌, drop, ◌∙◌}
use Rattle.spec_core.specs.Specification.{relation_places}
use Rattle.spec_core.specs.State.{reads, with_has}
use Rattle.spec_core.specs.Fits.{fits_places}
use Rattle.effectors.specs.Reaching.{with_tuples}
use Rattle.effectors.proofs.Steps.{next, none_left, rest_pass, tuples_step, tuples_done}
use Rattle.effectors.proofs.writing.write_tuples.Goals as goal

pub loop-tuple-preserved : goal.loop-tuple-preserved
loop-tuple-preserved g c =
    let n = g.R.Readings.reads c.args.from.now in
    let ts = c.args.tuples.now in let at = c.loop-tuple.tuple-index in let t = c.tuple-item.result in let k = c.args.relation in
    let e = next ts at t c.loop-tuple-test.true c.tuple-item.is in
    record {
      so_far = tuples_step k (drop at ts) (drop (at + 1) ts) t n (reads c.loop-tuple.new) (reads c.write_tuple.new.new) (with_tuples k ts n (reads c.args.new.now)) e
          (c.in_ok-write_tuple.ensures.reads ∙ λ i. with_has (reads c.loop-tuple.new) k (c.as_slice.ensures i) (n.has k (c.as_slice.ensures i)))
          c.loop-tuple.invariant.so_far;
      fits = c.in_ok-write_tuple.ensures.fits;
      rest = (rest_pass (fits_places c.args.world.now (relation_places c.args.spec.now k)) (drop at ts) t (drop (at + 1) ts) e c.loop-tuple.invariant.rest).1;
    }

pub returns-clause-reads : goal.returns-clause-reads
returns-clause-reads g c =
    let n = g.R.Readings.reads c.args.from.now in
    let ts = c.args.tuples.now in let at = c.loop-tuple.tuple-index in let k = c.args.relation in
    tuples_done k (drop at ts) n (reads c.loop-tuple.new) (with_tuples k ts n (reads c.args.new.now)) (none_left ts at c.loop-tuple-test.false) c.loop-tuple.invariant.so_far
