use Rattle.std.proofs.Common.{◌≡◌, true, sym, ap, subst}
use Rattle.spec_core.specs.Form.{form_of}
use Rattle.spec_core.specs.Line.{Line}
use Rattle.spec_core.specs.Truth.{is_exists}
use Rattle.spec_core.specs.Fits.{fits_places, line_fits}
use Rattle.obligation_list.specs.Breaking.{failing_vars}
use Rattle.obligation_list.proofs.LineFits.{body_fits}
use Rattle.obligation_list.proofs.lines.line_at.Goals as goal

pub holds-requires-in-Forall-clause-fits : goal.holds-requires-in-Forall-clause-fits
holds-requires-in-Forall-clause-fits g c =
    let d = c.args.spec.now in let w = c.args.world.now in let args = c.args.args.now in let es = c.args.elements.now in
    let line : Line = record { prefix = c.line.inside.prefix; vars = c.line.inside.vars; body = form_of c.line.inside.body } in
    body_fits d w args line es (ap is_exists c.in-Forall.is)
    (subst (λ (l : Line). line_fits d w args l ≡ true) (sym c.line.view_is) c.requires.fits)
    (subst (λ (l : Line). fits_places w (failing_vars l) es ≡ true) (sym c.line.view_is) c.requires.elements)
