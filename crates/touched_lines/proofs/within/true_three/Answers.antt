use Rattle.std.proofs.Common.{rules, ◌+◌, ◌≡◌, ◌≤◌, ◌||◌, suc, true, false, nat_lt, [], ◌∷◌, sym, ◌∙◌, arith}
use Rattle.spec_core.specs.Form.{form_of}
use Rattle.spec_core.specs.Truth.{truth}
use Rattle.spec_core.specs.Fits.{form_fits}
use Rattle.touched_lines.specs.Spans.{all_within}
use Rattle.touched_lines.proofs.Spanning.{all_below-less, span_begun, span_more, span_at_one, span_fails}
use Rattle.touched_lines.proofs.within.true_three.Goals as goal

pub true_last_two-requires-clause-fits : goal.true_last_two-requires-clause-fits
true_last_two-requires-clause-fits g c = span_at_one c.args.first.from c.args.first.to c.loop-e.e (λ e. all_within (c.args.second ∷ c.args.third ∷ []) (e ∷ []) (λ vars. form_fits c.args.spec.now c.args.world.now [] vars (form_of c.args.body.now))) c.loop-e.invariant.low c.loop-e-test.true c.requires.fits

pub returns-then-not-true_last_two : goal.returns-then-not-true_last_two
returns-then-not-true_last_two g c =
    let broken : c.true_last_two.result ≡ false = search rules in
    sym (span_fails c.args.first.from c.args.first.to c.loop-e.e (λ e. all_within (c.args.second ∷ c.args.third ∷ []) (e ∷ []) (λ vars. truth c.args.world.now (g.R.Readings.reads c.args.at.now) [] vars (form_of c.args.body.now))) c.loop-e.invariant.low c.loop-e-test.true (sym c.true_last_two.ensures ∙ broken))

pub loop-e-init : goal.loop-e-init
loop-e-init g c = record {
  low = let le : c.args.first.from ≤ c.args.first.from = omega arith in le;
  so_far = span_begun c.args.first.from (λ e. all_within (c.args.second ∷ c.args.third ∷ []) (e ∷ []) (λ vars. truth c.args.world.now (g.R.Readings.reads c.args.at.now) [] vars (form_of c.args.body.now)));
}

pub loop-e-preserved : goal.loop-e-preserved
loop-e-preserved g c =
    let held : c.true_last_two.result ≡ true = search rules in record {
      low = omega (arith, c.loop-e.invariant.low);
      so_far = span_more c.args.first.from c.loop-e.e (c.loop-e.e + 1) (λ e. all_within (c.args.second ∷ c.args.third ∷ []) (e ∷ []) (λ vars. truth c.args.world.now (g.R.Readings.reads c.args.at.now) [] vars (form_of c.args.body.now))) (let z : c.loop-e.e + 1 ≡ suc c.loop-e.e = omega arith in z) (sym c.true_last_two.ensures ∙ held) c.loop-e.invariant.so_far;
    }

pub returns : goal.returns
returns g c = sym (all_below-less c.loop-e.e c.args.first.to (λ e. nat_lt e c.args.first.from || all_within (c.args.second ∷ c.args.third ∷ []) (e ∷ []) (λ vars. truth c.args.world.now (g.R.Readings.reads c.args.at.now) [] vars (form_of c.args.body.now))) (omega (arith, c.loop-e-test.false)) c.loop-e.invariant.so_far)
