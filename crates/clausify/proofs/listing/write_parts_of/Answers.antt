use Rattle.std.proofs.Common.{◌≡◌, ◌+◌, ◌++◌, true, sym, ◌∙◌, subst}
use Rattle.std.specs.Prelude.{IfOk, OnOk}
use Rattle.ground_numbers.specs.Clauses.{Folded, clauses_of, names_of}
use Rattle.clausify.proofs.Plain.{folded-plain}
use Rattle.clausify.proofs.listing.write_parts_of.Goals as goal

pub returns-then-is_plain-clause-made : goal.returns-then-is_plain-clause-made
returns-then-is_plain-clause-made c =
    subst (λ (f : Folded). OnOk c.write_whole.result (c.write_whole.new.out ≡ c.args.out.now ++ clauses_of c.args.next f))
    (sym (folded-plain c.args.form.now (sym c.is_plain.ensures ∙ c.if-is_plain.true))) c.write_whole.ensures.made

pub returns-then-is_plain-clause-next : goal.returns-then-is_plain-clause-next
returns-then-is_plain-clause-next c =
    subst (λ (f : Folded). IfOk c.write_whole.result (λ n. n ≡ c.args.next + names_of f))
    (sym (folded-plain c.args.form.now (sym c.is_plain.ensures ∙ c.if-is_plain.true))) c.write_whole.ensures.next
