use Rattle.std.proofs.Common.{◌≡◌, List, ℕ, ℤ, map, sym, ap, ◌∙◌}
use Rattle.std.specs.List.{list_all}
use Rattle.spec_core.specs.Fits.{fits_places}
use Rattle.std.proofs.lemmas.List.Folds.{list_all-map}
use Rattle.spec_states.proofs.Entries.{Key}
use Rattle.spec_states.proofs.listed.Counts.fits.Goals as goal

pub returns : goal.returns
returns c =
    let p = fits_places c.args.world.now c.args.sorts.now in
    let es = c.self.inside.entries.entries in
    let each : c.all_keys_fit.result ≡ list_all (λ (k : Key). p k.items) (map (λ (e : Key × ℤ). e.0) es) = c.all_keys_fit.ensures in
    each ∙ list_all-map (λ (k : Key). p k.items) (λ (e : Key × ℤ). e.0) es ∙ sym (list_all-map (λ (e : List ℕ × ℤ). p e.0) (λ (e : Key × ℤ). (e.0.items, e.1)) es) ∙ ap (list_all (λ (e : List ℕ × ℤ). p e.0)) c.self.view_is
