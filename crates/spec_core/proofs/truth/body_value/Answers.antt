use Rattle.std.proofs.Common.{◌≡◌, ◌≤◌, true, length, subst, sym, List}
use Rattle.std.specs.List.{list_all}
use Rattle.spec_core.specs.declared.formula.Body.{Body}
use Rattle.spec_core.specs.declared.formula.Elem.{Elem}
use Rattle.spec_core.specs.Specification.{counter_keys}
use Rattle.spec_core.specs.Fits.{body_fits}
use Rattle.spec_core.specs.Sizes.{is_small}
use Rattle.std.proofs.lemmas.Bool.{and_parts}
use Rattle.spec_core.proofs.Parts.{few_keys}
use Rattle.spec_core.proofs.Places.{elems_small, elems_few}
use Rattle.spec_core.proofs.truth.body_value.Goals as goal

pub count_at-requires-clause-few : goal.count_at-requires-clause-few
count_at-requires-clause-few g c =
    let d = c.args.spec.now in let w = c.args.world.now in
    let fits = subst (λ (b : Body). body_fits d w c.args.args.now c.args.vars.now b ≡ true) c.in-Count.is c.requires.fits in
    subst (λ (es : List Elem). length es ≤ 2) (sym c.as_slice.ensures)
    (elems_few w c.args.args.now c.args.vars.now (counter_keys d c.in-Count.counter) c.in-Count.elems 2 (few_keys d c.well_formed-in-Count.ensures c.in-Count.counter) (and_parts _ _ fits).1)

pub count_at-requires-clause-small : goal.count_at-requires-clause-small
count_at-requires-clause-small g c =
    let d = c.args.spec.now in let w = c.args.world.now in
    let fits = subst (λ (b : Body). body_fits d w c.args.args.now c.args.vars.now b ≡ true) c.in-Count.is c.requires.fits in
    subst (λ (es : List Elem). list_all (is_small w c.args.args.now c.args.vars.now) es ≡ true) (sym c.as_slice.ensures)
    (elems_small d w c.requires.world c.args.args.now c.args.vars.now (counter_keys d c.in-Count.counter) c.in-Count.elems (and_parts _ _ fits).1)
