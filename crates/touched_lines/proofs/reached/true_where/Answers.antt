use Rattle.std.proofs.Common.{◌≡◌, true, ℕ, List, [], sym, ◌∙◌, ap, subst}
use Rattle.spec_core.specs.Form.{form_of}
use Rattle.spec_core.specs.Line.{Line}
use Rattle.spec_core.specs.Truth.{truth}
use Rattle.spec_core.specs.Fits.{form_fits}
use Rattle.touched_lines.specs.Spans.{all_within}
use Rattle.touched_lines.specs.Touched.{spans_from, true_where}
use Rattle.touched_lines.proofs.Touching.{where_fits}
use Rattle.touched_lines.proofs.reached.true_where.Goals as goal

pub true_in_spans-requires-clause-fits : goal.true_in_spans-requires-clause-fits
true_in_spans-requires-clause-fits g c =
    let d = c.args.spec.now in let w = c.args.world.now in let a = c.args.args.now in let l = c.args.line.now in let es = c.args.elems.now in let xs = c.args.spots.now in
    subst (λ (ss : List ℕ). all_within (spans_from w a es xs 0 ss) [] (λ vars. form_fits d w [] vars (form_of c.line.inside.body)) ≡ true) (sym c.as_slice.ensures)
    (subst (λ (x : Line). all_within (spans_from w a es xs 0 x.vars) [] (λ vars. form_fits d w [] vars x.body) ≡ true) (sym c.line.view_is) (where_fits d w l c.requires.fits a es xs))

pub returns : goal.returns
returns g c =
    let d = c.args.spec.now in let w = c.args.world.now in let a = c.args.args.now in let l = c.args.line.now in let es = c.args.elems.now in let xs = c.args.spots.now in
    let r = g.R.Readings.reads c.args.at.now in
    subst (λ (x : Line). c.true_in_spans.result ≡ true_where w r a x es xs) c.line.view_is
    (c.true_in_spans.ensures ∙ ap (λ (ss : List ℕ). all_within (spans_from w a es xs 0 ss) [] (λ vars. truth w r [] vars (form_of c.line.inside.body))) c.as_slice.ensures)
