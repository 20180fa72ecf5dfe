use Rattle.std.proofs.Common.{◌≡◌, true, false, refl, sym, ap, ◌∙◌}
use Rattle.std.proofs.lemmas.Result.{err_from_is_err_and}
use Rattle.parser_combinators.specs.declared.token.Key.TheVariants as keys
use Rattle.parser_combinators.specs.Words.{is_key, next, seen}
use Rattle.parser_combinators.specs.Read.{one_more, listed_at}
use Rattle.spec_reader.specs.Reading.{spot_at}
use Rattle.parser_combinators.proofs.Loop.{goes_on, ends, is_done}
use Rattle.spec_reader.proofs.Shrinking.{spot_shrinks}
use Rattle.spec_reader.proofs.lines.spot_list.Goals as goal

pub returns-in_err-spot : goal.returns-in_err-spot
returns-in_err-spot c =
    let p = err_from_is_err_and c.from_residual-in_err-spot.result c.from_residual-in_err-spot.ensures.1 in
    let so : is_key keys.Comma (next (seen c.spots.rest.now)) ≡ true = sym (ap (is_key keys.Comma) c.next_kind.ensures) ∙ sym c.is_key.ensures ∙ c.spots-test.true in
    rw (p.1, p.2) (ends (is_key keys.Comma) (one_more (spot_at c.args.version)) (spot_shrinks c.args.version) refl c.in_err-spot.field-0.0 c.spots.list c.spots.rest.now (listed_at (spot_at c.args.version) c.args.tokens.now) so c.in_err-spot.ensures c.spots.invariant)

pub spots-smaller : goal.spots-smaller
spots-smaller c = (spot_shrinks c.args.version).at c.spots.rest.now c.in_ok-spot.spot c.in_ok-spot.after.now c.in_ok-spot.ensures

pub spots-preserved : goal.spots-preserved
spots-preserved c =
    let so : is_key keys.Comma (next (seen c.spots.rest.now)) ≡ true = sym (ap (is_key keys.Comma) c.next_kind.ensures) ∙ sym c.is_key.ensures ∙ c.spots-test.true in
    rw c.in_ok-push-2.ensures.ok (goes_on (is_key keys.Comma) (one_more (spot_at c.args.version)) (spot_shrinks c.args.version) refl c.spots.list c.spots.rest.now c.in_ok-spot.spot c.in_ok-spot.after.now (listed_at (spot_at c.args.version) c.args.tokens.now) so c.in_ok-spot.ensures c.spots.invariant)

pub returns : goal.returns
returns c =
    let off : is_key keys.Comma (next (seen c.spots.rest.now)) ≡ false = sym (ap (is_key keys.Comma) c.next_kind.ensures) ∙ sym c.is_key.ensures ∙ c.spots-test.false in
    is_done (is_key keys.Comma) (one_more (spot_at c.args.version)) (spot_shrinks c.args.version) refl c.spots.list c.spots.rest.now (listed_at (spot_at c.args.version) c.args.tokens.now) off c.spots.invariant
