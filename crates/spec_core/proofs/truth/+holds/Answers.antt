use Rattle.std.proofs.Common.{◌≡◌, ◌≤◌, true, length, subst, sym, List}
use Rattle.std.specs.List.{list_all}
use Rattle.spec_core.specs.declared.formula.Elem.{Elem}
use Rattle.spec_core.specs.declared.formula.Formula.{Formula}
use Rattle.spec_core.specs.Form.{form_of}
use Rattle.spec_core.specs.Specification.{relation_places}
use Rattle.spec_core.specs.Fits.{form_fits}
use Rattle.spec_core.specs.Sizes.{is_small}
use Rattle.std.proofs.lemmas.Bool.{and_parts}
use Rattle.spec_core.proofs.Parts.{few_places}
use Rattle.spec_core.proofs.Places.{elems_small, elems_few}
use Rattle.spec_core.proofs.truth.+holds.Goals as goal

pub has_at-requires-clause-few : goal.has_at-requires-clause-few
has_at-requires-clause-few g t c =
    let d = c.args.spec.now in let w = c.args.world.now in
    let fits = subst (λ (f : Formula). form_fits d w c.args.args.now c.args.vars.now (form_of f) ≡ true) c.in-Has.is c.requires.fits in
    subst (λ (es : List Elem). length es ≤ 3) (sym c.as_slice.ensures)
    (elems_few w c.args.args.now c.args.vars.now (relation_places d c.in-Has.relation) c.in-Has.elems 3 (few_places d c.well_formed-in-Has.ensures c.in-Has.relation) (and_parts _ _ fits).1)

pub has_at-requires-clause-small : goal.has_at-requires-clause-small
has_at-requires-clause-small g t c =
    let d = c.args.spec.now in let w = c.args.world.now in
    let fits = subst (λ (f : Formula). form_fits d w c.args.args.now c.args.vars.now (form_of f) ≡ true) c.in-Has.is c.requires.fits in
    subst (λ (es : List Elem). list_all (is_small w c.args.args.now c.args.vars.now) es ≡ true) (sym c.as_slice.ensures)
    (elems_small d w c.requires.world c.args.args.now c.args.vars.now (relation_places d c.in-Has.relation) c.in-Has.elems (and_parts _ _ fits).1)
