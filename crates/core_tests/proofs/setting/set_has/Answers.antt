use Rattle.std.proofs.Common.{rules, ◌≡◌, true, get_or, length, ap, sym, ◌∙◌, subst}
use Rattle.std.specs.Prelude.{Some, slice_get, option_copied}
use Rattle.std.proofs.lemmas.Option.{get_or_from_slice_get}
use Rattle.spec_core.specs.declared.spec.Relation.{Relation}
use Rattle.spec_core.specs.Specification.{Specification, relation_places, no_relation}
use Rattle.spec_core.specs.Fits.{fits_places, is_state}
use Rattle.core_tests.proofs.Listed.{relation_listed}
use Rattle.core_tests.proofs.setting.set_has.Goals as goal

pub set_has-requires : goal.set_has-requires
set_has-requires g c =
    let found : slice_get c.spec.inside.relations c.args.relation ≡ Some c.expect-it.result.now = sym c.get.ensures ∙ ap option_copied c.expect-it.ensures in
    relation_listed c.args.spec.now c.args.world.now c.args.state.now c.args.relation c.expect-it.result.now c.requires
    (subst (λ (d : Specification). slice_get d.relations c.args.relation ≡ Some c.expect-it.result.now) c.spec.view_is found)

pub returns : goal.returns
returns g c =
    let found : slice_get c.spec.inside.relations c.args.relation ≡ Some c.expect-it.result.now = sym c.get.ensures ∙ ap option_copied c.expect-it.ensures in
    let is : get_or c.args.spec.now.relations c.args.relation no_relation ≡ c.expect-it.result.now = subst (λ (d : Specification). get_or d.relations c.args.relation no_relation ≡ c.expect-it.result.now) c.spec.view_is (get_or_from_slice_get c.spec.inside.relations c.args.relation c.expect-it.result.now no_relation found) in
    let fits : fits_places c.args.world.now c.as_slice.result.now c.args.tuple.now ≡ true = search rules in
    c.set_has.ensures.fits c.args.spec.now c.args.world.now c.requires
    (subst (λ (it : Relation). fits_places c.args.world.now it.places c.args.tuple.now ≡ true) (sym is) (subst (λ places. fits_places c.args.world.now places c.args.tuple.now ≡ true) c.as_slice.ensures fits))
