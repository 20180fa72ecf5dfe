use Rattle.std.proofs.Common.{◌≡◌, sym, ap, ◌∙◌}
use Rattle.std.specs.List.{list_all}
use Rattle.spec_core.specs.Fits.{fits_places}
use Rattle.std.proofs.lemmas.List.Folds.{list_all-map}
use Rattle.spec_states.proofs.Entries.{Key}
use Rattle.spec_states.proofs.listed.Tuples.fits.Goals as goal

pub returns : goal.returns
returns c =
    let p = fits_places c.args.world.now c.args.places.now in
    let each : c.all_tuples_fit.result ≡ list_all (λ (k : Key). p k.items) c.self.inside.keys.keys = c.all_tuples_fit.ensures in
    each ∙ sym (list_all-map p (λ (k : Key). k.items) c.self.inside.keys.keys) ∙ ap (list_all p) c.self.view_is
