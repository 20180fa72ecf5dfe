use Rattle.std.proofs.Common.{◌≡◌, true, false, refl, sym, ap, ◌∙◌}
use Rattle.std.proofs.lemmas.Result.{err_from_is_err_and}
use Rattle.parser_combinators.specs.declared.token.Key.TheVariants as keys
use Rattle.parser_combinators.specs.Words.{is_key, next, seen}
use Rattle.parser_combinators.specs.Read.{one_more}
use Rattle.spec_reader.specs.Reading.{variable_at, variables_at}
use Rattle.parser_combinators.proofs.Loop.{goes_on, ends, is_done}
use Rattle.spec_reader.proofs.Shrinking.{variable_shrinks}
use Rattle.spec_reader.proofs.sentences.variables.Goals as goal

pub returns-in_err-var : goal.returns-in_err-var
unfolding variables_at
returns-in_err-var c =
    let p = err_from_is_err_and c.from_residual-in_err-var.result c.from_residual-in_err-var.ensures.1 in
    let so : is_key keys.Comma (next (seen c.vars.rest.now)) ≡ true = sym (ap (is_key keys.Comma) c.next_kind.ensures) ∙ sym c.is_key.ensures ∙ c.vars-test.true in
    rw (p.1, p.2) (ends (is_key keys.Comma) (one_more (variable_at c.args.version)) (variable_shrinks c.args.version) refl c.in_err-var.field-0.0 c.vars.vars c.vars.rest.now (variables_at c.args.version c.args.tokens.now) so c.in_err-var.ensures c.vars.invariant)

pub vars-smaller : goal.vars-smaller
vars-smaller c = (variable_shrinks c.args.version).at c.vars.rest.now c.in_ok-var.var c.in_ok-var.after.now c.in_ok-var.ensures

pub vars-preserved : goal.vars-preserved
unfolding variables_at
vars-preserved c =
    let so : is_key keys.Comma (next (seen c.vars.rest.now)) ≡ true = sym (ap (is_key keys.Comma) c.next_kind.ensures) ∙ sym c.is_key.ensures ∙ c.vars-test.true in
    rw c.in_ok-push-2.ensures.ok (goes_on (is_key keys.Comma) (one_more (variable_at c.args.version)) (variable_shrinks c.args.version) refl c.vars.vars c.vars.rest.now c.in_ok-var.var c.in_ok-var.after.now (variables_at c.args.version c.args.tokens.now) so c.in_ok-var.ensures c.vars.invariant)

pub returns : goal.returns
unfolding variables_at
returns c =
    let off : is_key keys.Comma (next (seen c.vars.rest.now)) ≡ false = sym (ap (is_key keys.Comma) c.next_kind.ensures) ∙ sym c.is_key.ensures ∙ c.vars-test.false in
    is_done (is_key keys.Comma) (one_more (variable_at c.args.version)) (variable_shrinks c.args.version) refl c.vars.vars c.vars.rest.now (variables_at c.args.version c.args.tokens.now) off c.vars.invariant
