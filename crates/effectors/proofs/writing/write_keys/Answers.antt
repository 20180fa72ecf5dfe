use Rattle.std.proofs.Common.{◌≡◌, ℕ, List, true, ◌+◌, drop, ◌∙◌, ap, sym}
use Rattle.std.specs.List.{list_all}
use Rattle.spec_core.specs.Specification.{counter_keys}
use Rattle.spec_core.specs.State.{reads, with_count}
use Rattle.spec_core.specs.Fits.{fits_places, in_state_range}
use Rattle.effectors.specs.Reaching.{with_keys}
use Rattle.effectors.proofs.Steps.{next, none_left, rest_pass, keys_step, keys_done, passed}
use Rattle.effectors.proofs.writing.write_keys.Goals as goal

pub loop-key-preserved : goal.loop-key-preserved
loop-key-preserved g c =
    let n = g.R.Readings.reads c.args.from.now in
    let ts = c.args.keys.now in let at = c.loop-key.key-index in let t = c.key-item.result in let k = c.args.counter in
    let e = next ts at t c.loop-key-test.true c.key-item.is in
    let p = λ (t : List ℕ). in_state_range (n.count k t) in
    let here : p t ≡ true = ap p (sym c.as_slice.ensures) ∙ sym c.in_ok-write_key.ensures.range ∙ c.if-not-branch.false in
    record {
      so_far = keys_step k (drop at ts) (drop (at + 1) ts) t n (reads c.loop-key.new) (reads c.write_key.new.new) (with_keys k ts n (reads c.args.new.now)) e
          (c.in_ok-write_key.ensures.reads c.if-not-branch.false ∙ λ i. with_count (reads c.loop-key.new) k (c.as_slice.ensures i) (n.count k (c.as_slice.ensures i)))
          c.loop-key.invariant.so_far;
      range = passed (p t) (list_all p (drop (at + 1) ts)) (list_all p ts) here (ap (list_all p) (sym e) ∙ c.loop-key.invariant.range);
      fits = c.in_ok-write_key.ensures.fits c.if-not-branch.false;
      rest = (rest_pass (fits_places c.args.world.now (counter_keys c.args.spec.now k)) (drop at ts) t (drop (at + 1) ts) e c.loop-key.invariant.rest).1;
    }

pub returns-clause-reads : goal.returns-clause-reads
returns-clause-reads g c =
    let n = g.R.Readings.reads c.args.from.now in
    let ts = c.args.keys.now in let at = c.loop-key.key-index in let k = c.args.counter in
    λ _. keys_done k (drop at ts) n (reads c.loop-key.new) (with_keys k ts n (reads c.args.new.now)) (none_left ts at c.loop-key-test.false) c.loop-key.invariant.so_far
