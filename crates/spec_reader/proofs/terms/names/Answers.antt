use Rattle.std.proofs.Common.{◌≡◌, true, false, refl, sym, ap, ◌∙◌}
use Rattle.std.proofs.lemmas.Result.{err_from_is_err_and}
use Rattle.parser_combinators.specs.declared.token.Key.TheVariants as keys
use Rattle.parser_combinators.specs.Words.{is_key, next, seen}
use Rattle.parser_combinators.specs.Read.{one_more, listed_at}
use Rattle.spec_reader.specs.Reading.{name_at}
use Rattle.parser_combinators.proofs.Loop.{goes_on, ends, is_done}
use Rattle.spec_reader.proofs.Shrinking.{name_shrinks}
use Rattle.spec_reader.proofs.terms.names.Goals as goal

pub returns-in_err-mark : goal.returns-in_err-mark
returns-in_err-mark c =
    let p = err_from_is_err_and c.from_residual-in_err-mark.result c.from_residual-in_err-mark.ensures.1 in
    let so : is_key keys.Comma (next (seen c.names.rest.now)) ≡ true = sym (ap (is_key keys.Comma) c.next_kind.ensures) ∙ sym c.is_key.ensures ∙ c.names-test.true in
    rw (p.1, p.2) (ends (is_key keys.Comma) (one_more (name_at c.args.version)) (name_shrinks c.args.version) refl c.in_err-mark.field-0.0 c.names.marks c.names.rest.now (listed_at (name_at c.args.version) c.args.tokens.now) so c.in_err-mark.ensures c.names.invariant)

pub names-preserved : goal.names-preserved
names-preserved c =
    let so : is_key keys.Comma (next (seen c.names.rest.now)) ≡ true = sym (ap (is_key keys.Comma) c.next_kind.ensures) ∙ sym c.is_key.ensures ∙ c.names-test.true in
    rw c.in_ok-push-2.ensures.ok (goes_on (is_key keys.Comma) (one_more (name_at c.args.version)) (name_shrinks c.args.version) refl c.names.marks c.names.rest.now c.in_ok-mark.mark c.in_ok-mark.after.now (listed_at (name_at c.args.version) c.args.tokens.now) so c.in_ok-mark.ensures c.names.invariant)

pub returns : goal.returns
returns c =
    let off : is_key keys.Comma (next (seen c.names.rest.now)) ≡ false = sym (ap (is_key keys.Comma) c.next_kind.ensures) ∙ sym c.is_key.ensures ∙ c.names-test.false in
    is_done (is_key keys.Comma) (one_more (name_at c.args.version)) (name_shrinks c.args.version) refl c.names.marks c.names.rest.now (listed_at (name_at c.args.version) c.args.tokens.now) off c.names.invariant
