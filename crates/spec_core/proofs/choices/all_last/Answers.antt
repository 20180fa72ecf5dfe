use Rattle.std.proofs.Common.{rules, ◌≡◌, ◌<◌, true, false, [], ◌∷◌, ◌++◌, subst, sym, ◌∙◌, arith}
use Rattle.spec_core.specs.Form.{form_of}
use Rattle.spec_core.specs.World.{size_of}
use Rattle.spec_core.specs.Truth.{truth}
use Rattle.spec_core.specs.Fits.{form_fits}
use Rattle.spec_core.specs.Choices.{all_below, agrees}
use Rattle.spec_core.proofs.Choosing.{last_at, last_fail, last_all}
use Rattle.spec_core.proofs.choices.all_last.Goals as goal

pub agrees_with-requires-clause-fits : goal.agrees_with-requires-clause-fits
agrees_with-requires-clause-fits g c =
    let lt : c.loop-e.e < size_of c.args.world.now c.args.sort = subst (λ n. c.loop-e.e < n) c.size-e-end.ensures c.loop-e-test.true in
    last_at c.args.world.now c.args.chosen.now c.args.sort (λ vars. form_fits c.args.spec.now c.args.world.now c.args.args.now vars (form_of c.args.body.now)) c.loop-e.e lt c.requires.fits

pub returns-then-not-agrees_with : goal.returns-then-not-agrees_with
returns-then-not-agrees_with g c =
    let lt : c.loop-e.e < size_of c.args.world.now c.args.sort = subst (λ n. c.loop-e.e < n) c.size-e-end.ensures c.loop-e-test.true in
    let broken : c.agrees_with.result ≡ false = search rules in
    sym (last_fail c.args.world.now c.args.chosen.now c.args.sort (λ vars. agrees c.args.wanted (truth c.args.world.now (g.R.Readings.reads c.args.at.now) c.args.args.now vars (form_of c.args.body.now))) c.loop-e.e lt (sym c.agrees_with.ensures ∙ broken))

pub returns : goal.returns
returns g c =
    let e : c.loop-e.e ≡ size_of c.args.world.now c.args.sort = omega (arith, c.size-e-end.ensures) in
    sym (last_all c.args.world.now c.args.chosen.now c.args.sort (λ vars. agrees c.args.wanted (truth c.args.world.now (g.R.Readings.reads c.args.at.now) c.args.args.now vars (form_of c.args.body.now))) (subst (λ n. all_below n (λ e. agrees c.args.wanted (truth c.args.world.now (g.R.Readings.reads c.args.at.now) c.args.args.now (c.args.chosen.now ++ e ∷ []) (form_of c.args.body.now))) ≡ true) e c.loop-e.invariant))
