use Rattle.std.proofs.Common.{◌≡◌, true, false, sym, ap, ◌∙◌, arith}
use Rattle.parser_combinators.specs.declared.token.Key.TheVariants as keys
use Rattle.parser_combinators.specs.Words.{next, seen, is_key, is_name}
use Rattle.spec_reader.specs.Reading.{form_at, starts_term}
use Rattle.spec_reader.proofs.FormCode.{form_at-flat, form_at-plain, form_at-not, inner_at-flat, inner_at-more, inside_at-term, inside_at-named, inside_at-connected}
use Rattle.spec_reader.proofs.formulas.+formula.Goals as goal

pub formula-returns-then-depth-eq0 : goal.formula-returns-then-depth-eq0
formula-returns-then-depth-eq0 t c = rw (form_at-flat c.args.version c.args.depth c.args.tokens.now c.if-depth-eq0.true) c.plain.ensures

pub formula-returns-then-not-is_key : goal.formula-returns-then-not-is_key
formula-returns-then-not-is_key t c =
    let off : is_key keys.Not (next (seen c.args.tokens.now)) ≡ false = sym (ap (is_key keys.Not) c.next_kind.ensures) ∙ sym c.is_key.ensures ∙ c.if-not-is_key.true in
    rw (form_at-plain c.args.version c.args.depth c.args.tokens.now off) c.plain-then-not-is_key.ensures

pub formula-returns : goal.formula-returns
formula-returns t c =
    let so : is_key keys.Not (next (seen c.args.tokens.now)) ≡ true = sym (ap (is_key keys.Not) c.next_kind.ensures) ∙ sym c.is_key.ensures ∙ c.if-not-is_key.false in
    rw (form_at-not c.args.version c.args.depth c.args.tokens.now so (omega arith)) c.negation.ensures

pub inner-returns-then-depth-eq0 : goal.inner-returns-then-depth-eq0
inner-returns-then-depth-eq0 t c = rw (inner_at-flat c.args.version c.args.depth c.args.tokens.now c.if-depth-eq0.true) c.compared.ensures

pub inner-returns : goal.inner-returns
inner-returns t c = rw (inner_at-more c.args.version c.args.depth c.args.tokens.now (omega arith)) c.inside.ensures

pub inside-returns-then-is_name : goal.inside-returns-then-is_name
inside-returns-then-is_name t c =
    let off : starts_term (next (seen c.args.tokens.now)) ≡ false = sym (ap starts_term c.next_kind-kind.ensures) ∙ sym c.starts_term.ensures ∙ c.if-starts_term.false in
    let so : is_name c.args.version (next (seen c.args.tokens.now)) ≡ true = sym (ap (is_name c.args.version) c.next_kind-kind.ensures) ∙ sym c.is_name.ensures ∙ c.if-is_name.true in
    rw (inside_at-named c.args.version (form_at c.args.version c.args.depth) c.args.tokens.now off so) c.named.ensures

pub inside-returns-then-starts_term : goal.inside-returns-then-starts_term
inside-returns-then-starts_term t c =
    let so : starts_term (next (seen c.args.tokens.now)) ≡ true = sym (ap starts_term c.next_kind-kind.ensures) ∙ sym c.starts_term.ensures ∙ c.if-starts_term.true in
    rw (inside_at-term c.args.version (form_at c.args.version c.args.depth) c.args.tokens.now so) c.compared.ensures

pub inside-returns : goal.inside-returns
inside-returns t c =
    let off : starts_term (next (seen c.args.tokens.now)) ≡ false = sym (ap starts_term c.next_kind-kind.ensures) ∙ sym c.starts_term.ensures ∙ c.if-starts_term.false in
    let none : is_name c.args.version (next (seen c.args.tokens.now)) ≡ false = sym (ap (is_name c.args.version) c.next_kind-kind.ensures) ∙ sym c.is_name.ensures ∙ c.if-is_name.false in
    rw (inside_at-connected c.args.version (form_at c.args.version c.args.depth) c.args.tokens.now off none) c.connected.ensures
