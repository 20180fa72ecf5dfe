use Rattle.std.proofs.Common.{◌≡◌, true, false, refl, sym, ap, ◌∙◌}
use Rattle.std.proofs.lemmas.Result.{err_from_is_err_and}
use Rattle.parser_combinators.specs.declared.token.Key.TheVariants as keys
use Rattle.parser_combinators.specs.Words.{is_key, next, seen}
use Rattle.parser_combinators.specs.Read.{one_more, listed_at}
use Rattle.spec_reader.specs.Reading.{param_at}
use Rattle.parser_combinators.proofs.Loop.{goes_on, ends, is_done}
use Rattle.spec_reader.proofs.Shrinking.{param_shrinks}
use Rattle.spec_reader.proofs.item.param_list.Goals as goal

pub returns-in_err-param : goal.returns-in_err-param
returns-in_err-param c =
    let p = err_from_is_err_and c.from_residual-in_err-param.result c.from_residual-in_err-param.ensures.1 in
    let so : is_key keys.Comma (next (seen c.params.rest.now)) ≡ true = sym (ap (is_key keys.Comma) c.next_kind.ensures) ∙ sym c.is_key.ensures ∙ c.params-test.true in
    rw (p.1, p.2) (ends (is_key keys.Comma) (one_more (param_at c.args.version)) (param_shrinks c.args.version) refl c.in_err-param.field-0.0 c.params.list c.params.rest.now (listed_at (param_at c.args.version) c.args.tokens.now) so c.in_err-param.ensures c.params.invariant)

pub params-smaller : goal.params-smaller
params-smaller c = (param_shrinks c.args.version).at c.params.rest.now c.in_ok-param.param c.in_ok-param.after.now c.in_ok-param.ensures

pub params-preserved : goal.params-preserved
params-preserved c =
    let so : is_key keys.Comma (next (seen c.params.rest.now)) ≡ true = sym (ap (is_key keys.Comma) c.next_kind.ensures) ∙ sym c.is_key.ensures ∙ c.params-test.true in
    rw c.in_ok-push-2.ensures.ok (goes_on (is_key keys.Comma) (one_more (param_at c.args.version)) (param_shrinks c.args.version) refl c.params.list c.params.rest.now c.in_ok-param.param c.in_ok-param.after.now (listed_at (param_at c.args.version) c.args.tokens.now) so c.in_ok-param.ensures c.params.invariant)

pub returns : goal.returns
returns c =
    let off : is_key keys.Comma (next (seen c.params.rest.now)) ≡ false = sym (ap (is_key keys.Comma) c.next_kind.ensures) ∙ sym c.is_key.ensures ∙ c.params-test.false in
    is_done (is_key keys.Comma) (one_more (param_at c.args.version)) (param_shrinks c.args.version) refl c.params.list c.params.rest.now (listed_at (param_at c.args.version) c.args.tokens.now) off c.params.invariant
