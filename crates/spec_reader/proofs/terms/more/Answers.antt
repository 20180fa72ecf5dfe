use Rattle.std.proofs.Common.{◌≡◌, true, false, refl, sym, ap, ◌∙◌}
use Rattle.std.proofs.lemmas.Result.{err_from_is_err_and}
use Rattle.parser_combinators.specs.Words.{next, seen}
use Rattle.spec_reader.specs.Reading.{is_sign, signed_at, more_at}
use Rattle.parser_combinators.proofs.Loop.{goes_on, ends, is_done}
use Rattle.spec_reader.proofs.Shrinking.{signed_shrinks}
use Rattle.spec_reader.proofs.terms.more.Goals as goal

pub returns-in_err-summand : goal.returns-in_err-summand
unfolding more_at
returns-in_err-summand c =
    let p = err_from_is_err_and c.from_residual.result c.from_residual.ensures.1 in
    let so : is_sign (next (seen c.more.rest.now)) ≡ true = sym (ap is_sign c.next_kind.ensures) ∙ sym c.is_sign.ensures ∙ c.more-test.true in
    rw (p.1, p.2) (ends is_sign (signed_at c.args.version) (signed_shrinks c.args.version) refl c.in_err-summand.field-0.0 c.more.more c.more.rest.now (more_at c.args.version c.args.tokens.now) so c.in_err-summand.ensures c.more.invariant)

pub more-smaller : goal.more-smaller
more-smaller c = (signed_shrinks c.args.version).at c.more.rest.now c.in_ok-summand.summand c.in_ok-summand.after.now c.in_ok-summand.ensures

pub more-preserved : goal.more-preserved
unfolding more_at
more-preserved c =
    let so : is_sign (next (seen c.more.rest.now)) ≡ true = sym (ap is_sign c.next_kind.ensures) ∙ sym c.is_sign.ensures ∙ c.more-test.true in
    rw c.in_ok-push.ensures.ok (goes_on is_sign (signed_at c.args.version) (signed_shrinks c.args.version) refl c.more.more c.more.rest.now c.in_ok-summand.summand c.in_ok-summand.after.now (more_at c.args.version c.args.tokens.now) so c.in_ok-summand.ensures c.more.invariant)

pub returns : goal.returns
unfolding more_at
returns c =
    let off : is_sign (next (seen c.more.rest.now)) ≡ false = sym (ap is_sign c.next_kind.ensures) ∙ sym c.is_sign.ensures ∙ c.more-test.false in
    is_done is_sign (signed_at c.args.version) (signed_shrinks c.args.version) refl c.more.more c.more.rest.now (more_at c.args.version c.args.tokens.now) off c.more.invariant
