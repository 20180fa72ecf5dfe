use Rattle.std.proofs.Common.{◌≡◌, ◌∙◌, ap, rules}
use Rattle.std.proofs.lemmas.Bool.{and_parts}
use Rattle.std.specs.List.{list_all}
use Rattle.spec_core.specs.Specification.{places_of}
use Rattle.spec_core.specs.Fits.{fits_places, change_fits, spots_fit}
use Rattle.effectors.specs.Reaching.{reached}
use Rattle.effectors.proofs.Reached.{matching_fit}
use Rattle.effectors.proofs.matching.reached.Goals as goal

pub returns-clause-fits : goal.returns-clause-fits
returns-clause-fits c =
    let w = c.args.world.now in let d = c.args.spec.now in let u = c.args.update.now in let args = c.args.call.now.args in
    let spots = (and_parts (change_fits d w args u.thing u.change) (spots_fit w args (places_of d u.thing) u.at) (and_parts _ _ c.requires.update).0).1 in
    let e : c.in_ok-list.list ≡ reached d w args u = search rules in
    ap (list_all (fits_places w (places_of d u.thing))) e ∙ matching_fit w args (places_of d u.thing) u.at spots
