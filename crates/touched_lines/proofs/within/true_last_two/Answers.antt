use Rattle.std.proofs.Common.{rules, ◌+◌, ◌≡◌, ◌≤◌, ◌||◌, suc, true, false, nat_lt, [], ◌∷◌, ◌++◌, sym, ◌∙◌, arith}
use Rattle.spec_core.specs.Form.{form_of}
use Rattle.spec_core.specs.Truth.{truth}
use Rattle.spec_core.specs.Fits.{form_fits}
use Rattle.touched_lines.specs.Spans.{all_within}
use Rattle.touched_lines.proofs.Spanning.{all_below-less, span_begun, span_more, span_at_one, span_fails}
use Rattle.touched_lines.proofs.within.true_last_two.Goals as goal

pub true_last_with-requires-clause-fits : goal.true_last_with-requires-clause-fits
true_last_with-requires-clause-fits g c = span_at_one c.args.span.from c.args.span.to c.loop-e.e (λ e. all_within (c.args.last ∷ []) (c.args.chosen.now ++ e ∷ []) (λ vars. form_fits c.args.spec.now c.args.world.now [] vars (form_of c.args.body.now))) c.loop-e.invariant.low c.loop-e-test.true c.requires.fits

pub returns-then-not-true_last_with : goal.returns-then-not-true_last_with
returns-then-not-true_last_with g c =
    let broken : c.true_last_with.result ≡ false = search rules in
    sym (span_fails c.args.span.from c.args.span.to c.loop-e.e (λ e. all_within (c.args.last ∷ []) (c.args.chosen.now ++ e ∷ []) (λ vars. truth c.args.world.now (g.R.Readings.reads c.args.at.now) [] vars (form_of c.args.body.now))) c.loop-e.invariant.low c.loop-e-test.true (sym c.true_last_with.ensures ∙ broken))

pub loop-e-init : goal.loop-e-init
loop-e-init g c = record {
  low = let le : c.args.span.from ≤ c.args.span.from = omega arith in le;
  so_far = span_begun c.args.span.from (λ e. all_within (c.args.last ∷ []) (c.args.chosen.now ++ e ∷ []) (λ vars. truth c.args.world.now (g.R.Readings.reads c.args.at.now) [] vars (form_of c.args.body.now)));
}

pub loop-e-preserved : goal.loop-e-preserved
loop-e-preserved g c =
    let held : c.true_last_with.result ≡ true = search rules in record {
      low = omega (arith, c.loop-e.invariant.low);
      so_far = span_more c.args.span.from c.loop-e.e (c.loop-e.e + 1) (λ e. all_within (c.args.last ∷ []) (c.args.chosen.now ++ e ∷ []) (λ vars. truth c.args.world.now (g.R.Readings.reads c.args.at.now) [] vars (form_of c.args.body.now))) (let z : c.loop-e.e + 1 ≡ suc c.loop-e.e = omega arith in z) (sym c.true_last_with.ensures ∙ held) c.loop-e.invariant.so_far;
    }

pub returns : goal.returns
returns g c = sym (all_below-less c.loop-e.e c.args.span.to (λ e. nat_lt e c.args.span.from || all_within (c.args.last ∷ []) (c.args.chosen.now ++ e ∷ []) (λ vars. truth c.args.world.now (g.R.Readings.reads c.args.at.now) [] vars (form_of c.args.body.now))) (omega (arith, c.loop-e-test.false)) c.loop-e.invariant.so_far)
