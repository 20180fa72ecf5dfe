use Rattle.std.proofs.Common.{cond, arith, sym, ap, ◌∙◌}
use Rattle.effectors.specs.Effect.{is_thing}
use Rattle.ground_problem.specs.Equality.{insert_rising}
use Rattle.instances.proofs.Tuples.{rising_last}
use Rattle.instances.proofs.agreeing.rising.Goals as goal

pub loop-place-preserved : goal.loop-place-preserved
loop-place-preserved c =
    let r = c.index-readings-place.result in
    record {
      made =
          c.in_ok-tuples.ensures
          ∙ ap (λ us. cond (is_thing r.thing c.args.thing) (insert_rising r.tuple us) us) c.loop-place.invariant.made
          ∙ sym (rising_last c.args.thing c.args.readings.now c.loop-place.place r (omega (arith, c.loop-place-test.true)) c.loop-place.invariant.place c.index-readings-place.is);
      place = omega (arith, c.loop-place.invariant.place);
    }
