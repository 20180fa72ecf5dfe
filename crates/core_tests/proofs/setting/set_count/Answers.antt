use Rattle.std.proofs.Common.{rules, ◌≡◌, true, get_or, length, ap, sym, ◌∙◌, subst}
use Rattle.std.specs.Prelude.{Some, slice_get, option_copied}
use Rattle.std.proofs.lemmas.Option.{get_or_from_slice_get}
use Rattle.spec_core.specs.declared.spec.Counter.{Counter}
use Rattle.spec_core.specs.Specification.{Specification, counter_keys, no_counter}
use Rattle.spec_core.specs.Fits.{fits_places, is_state}
use Rattle.core_tests.proofs.Listed.{counter_listed}
use Rattle.core_tests.proofs.setting.set_count.Goals as goal

pub set_count-requires-clause-counter : goal.set_count-requires-clause-counter
set_count-requires-clause-counter g c =
    let found : slice_get c.spec.inside.counters c.args.counter ≡ Some c.expect-it.result.now = sym c.get.ensures ∙ ap option_copied c.expect-it.ensures in
    counter_listed c.args.spec.now c.args.world.now c.args.state.now c.args.counter c.expect-it.result.now c.requires
    (subst (λ (d : Specification). slice_get d.counters c.args.counter ≡ Some c.expect-it.result.now) c.spec.view_is found)

pub returns : goal.returns
returns g c =
    let found : slice_get c.spec.inside.counters c.args.counter ≡ Some c.expect-it.result.now = sym c.get.ensures ∙ ap option_copied c.expect-it.ensures in
    let is : get_or c.args.spec.now.counters c.args.counter no_counter ≡ c.expect-it.result.now = subst (λ (d : Specification). get_or d.counters c.args.counter no_counter ≡ c.expect-it.result.now) c.spec.view_is (get_or_from_slice_get c.spec.inside.counters c.args.counter c.expect-it.result.now no_counter found) in
    let fits : fits_places c.args.world.now c.as_slice.result.now c.args.key.now ≡ true = search rules in
    c.set_count.ensures.fits c.args.spec.now c.args.world.now c.requires
    (subst (λ (it : Counter). fits_places c.args.world.now it.keys c.args.key.now ≡ true) (sym is) (subst (λ keys. fits_places c.args.world.now keys c.args.key.now ≡ true) c.as_slice.ensures fits))
