use Rattle.std.proofs.Common.{List, subst, sym, ◌∙◌}
use Rattle.std.specs.List.{Contains}
use Rattle.conflict_variants.specs.Keyed.{CanBeKeyed}
use Rattle.suggest.specs.Pairs.{keys_of}
use Rattle.suggest.specs.Writing.{AreKeysAppended}
use Rattle.suggest.specs.declared.answer.Key.{Key}
use Rattle.suggest.proofs.Appending.{not_needed, needed}
use Rattle.suggest.proofs.writing.write_keys_after.Goals as goal

pub returns-then-not-needed : goal.returns-then-not-needed
returns-then-not-needed c = λ f e.
    let asked = c.args.question.now in
    not_needed asked.spec.now asked.budget asked.pair (keys_of asked.spec.now asked.pair.first asked.pair.second) c.args.text.now.items f (sym c.if-not-needed.true ∙ e)

pub write_keys-requires-clause-keyed : goal.write_keys-requires-clause-keyed
write_keys-requires-clause-keyed c =
    let asked = c.args.question.now in
    subst (λ (ks : List Key). (k : Key) → Contains ks k → CanBeKeyed asked.spec.now asked.pair.first k.p asked.pair.second k.q) (sym c.as_slice.ensures) c.in_ok-keys.ensures.members

pub returns : goal.returns
returns c = λ f e.
    let asked = c.args.question.now in
    let d = asked.spec.now in
    needed d asked.budget asked.pair (keys_of d asked.pair.first asked.pair.second) c.args.text.now.items c.write_keys.new.text.items
    (subst (λ (ks : List Key). AreKeysAppended d asked.budget asked.pair ks c.args.text.now.items c.write_keys.new.text.items) (c.as_slice.ensures ∙ c.in_ok-keys.ensures.list) c.in-Ok.ensures)
    f (sym c.if-not-needed.false ∙ e)
