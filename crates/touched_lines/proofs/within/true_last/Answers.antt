use Rattle.std.proofs.Common.{rules, ◌+◌, ◌≡◌, ◌<◌, ◌≤◌, ◌||◌, suc, true, false, nat_lt, [], ◌∷◌, ◌++◌, sym, ◌∙◌, arith}
use Rattle.spec_core.specs.Form.{form_of}
use Rattle.spec_core.specs.Truth.{truth}
use Rattle.spec_core.specs.Fits.{form_fits}
use Rattle.touched_lines.proofs.Spanning.{all_below-less, span_begun, span_more, span_at_one, span_fails, within_all}
use Rattle.touched_lines.proofs.within.true_last.Goals as goal

pub holds_with-requires-clause-fits : goal.holds_with-requires-clause-fits
holds_with-requires-clause-fits g c = span_at_one c.args.span.from c.args.span.to c.loop-e.e (λ e. form_fits c.args.spec.now c.args.world.now [] (c.args.chosen.now ++ e ∷ []) (form_of c.args.body.now)) c.loop-e.invariant.low c.loop-e-test.true c.requires.fits

pub returns-then-not-holds_with : goal.returns-then-not-holds_with
returns-then-not-holds_with g c =
    let broken : c.holds_with.result ≡ false = search rules in
    sym (span_fails c.args.span.from c.args.span.to c.loop-e.e (λ e. truth c.args.world.now (g.R.Readings.reads c.args.at.now) [] (c.args.chosen.now ++ e ∷ []) (form_of c.args.body.now)) c.loop-e.invariant.low c.loop-e-test.true (sym c.holds_with.ensures ∙ broken))

pub loop-e-init : goal.loop-e-init
loop-e-init g c = record {
  low = let le : c.args.span.from ≤ c.args.span.from = omega arith in le;
  so_far = span_begun c.args.span.from (λ e. truth c.args.world.now (g.R.Readings.reads c.args.at.now) [] (c.args.chosen.now ++ e ∷ []) (form_of c.args.body.now));
}

pub loop-e-preserved : goal.loop-e-preserved
loop-e-preserved g c =
    let held : c.holds_with.result ≡ true = search rules in record {
      low = omega (arith, c.loop-e.invariant.low);
      so_far = span_more c.args.span.from c.loop-e.e (c.loop-e.e + 1) (λ e. truth c.args.world.now (g.R.Readings.reads c.args.at.now) [] (c.args.chosen.now ++ e ∷ []) (form_of c.args.body.now)) (let z : c.loop-e.e + 1 ≡ suc c.loop-e.e = omega arith in z) (sym c.holds_with.ensures ∙ held) c.loop-e.invariant.so_far;
    }

pub returns : goal.returns
returns g c = sym (all_below-less c.loop-e.e c.args.span.to (λ e. nat_lt e c.args.span.from || truth c.args.world.now (g.R.Readings.reads c.args.at.now) [] (c.args.chosen.now ++ e ∷ []) (form_of c.args.body.now)) (omega (arith, c.loop-e-test.false)) c.loop-e.invariant.so_far)

pub chosen_force-requires-clause-fits : goal.chosen_force-requires-clause-fits
chosen_force-requires-clause-fits g c =
    let from = c.args.span.from in
    let le : from ≤ from = omega arith in
    let lt : from < c.args.span.to = search rules in
    span_at_one from c.args.span.to from (λ e. form_fits c.args.spec.now c.args.world.now [] (c.args.chosen.now ++ e ∷ []) (form_of c.args.body.now)) le lt c.requires.fits

pub returns-then-chosen_force : goal.returns-then-chosen_force
returns-then-chosen_force g c =
    let held : c.chosen_force.result ≡ true = search rules in
    sym (within_all (c.args.span ∷ []) c.args.chosen.now (λ vars. truth c.args.world.now (g.R.Readings.reads c.args.at.now) [] vars (form_of c.args.body.now)) (λ t k. c.chosen_force.ensures held t))
