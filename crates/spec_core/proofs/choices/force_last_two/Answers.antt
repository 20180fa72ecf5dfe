use Rattle.std.proofs.Common.{rules, ◌≡◌, ◌<◌, [], ◌∷◌, ◌∙◌, sym, subst, arith}
use Rattle.spec_core.specs.Form.{form_of}
use Rattle.spec_core.specs.World.{size_of}
use Rattle.spec_core.specs.Fits.{form_fits}
use Rattle.spec_core.proofs.Rest.{last_zeros}
use Rattle.spec_core.proofs.choices.force_last_two.Goals as goal

pub chosen_force-requires-clause-fits : goal.chosen_force-requires-clause-fits
chosen_force-requires-clause-fits g c =
    let one : 0 < size_of c.args.world.now c.args.sort = search rules in
    let other : 0 < size_of c.args.world.now c.args.last = search rules in
    last_zeros c.args.world.now c.args.chosen.now c.args.sort c.args.last (λ vars. form_fits c.args.spec.now c.args.world.now c.args.args.now vars (form_of c.args.body.now)) one other c.requires.fits

pub returns : goal.returns
returns g c h = c.chosen_force.ensures h (c.args.sort ∷ c.args.last ∷ [])
