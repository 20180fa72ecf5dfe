use Rattle.std.proofs.Common.{List, subst, sym, ◌∙◌}
use Rattle.std.specs.List.{Contains}
use Rattle.conflict_variants.specs.Keyed.{CanBeKeyed}
use Rattle.suggest.specs.Pairs.{keys_of}
use Rattle.suggest.specs.Answers.{AreKeyAnswers, keys_after}
use Rattle.suggest.specs.declared.answer.Key.{Key}
use Rattle.suggest.specs.declared.answer.KeyAnswer.{KeyAnswer}
use Rattle.suggest.proofs.Appending.{none_tried, all_tried}
use Rattle.suggest.proofs.answering.keys_for.Goals as goal

pub returns-then-not-is_refuted : goal.returns-then-not-is_refuted
returns-then-not-is_refuted c =
    let asked = c.args.question.now in
    let d = asked.spec.now in
    let ks = keys_of d asked.pair.first asked.pair.second in
    subst (λ (ys : List KeyAnswer). AreKeyAnswers d asked.budget asked.pair.first asked.pair.second (keys_after c.args.found.now ks) ys) (sym c.new.ensures)
    (none_tried d asked.budget asked.pair ks c.args.found.now (sym c.is_refuted.ensures ∙ c.if-not-is_refuted.true))

pub key_answers-requires-clause-keyed : goal.key_answers-requires-clause-keyed
key_answers-requires-clause-keyed c =
    let asked = c.args.question.now in
    subst (λ (ks : List Key). (k : Key) → Contains ks k → CanBeKeyed asked.spec.now asked.pair.first k.p asked.pair.second k.q) (sym c.as_slice.ensures) c.in_ok-keys.ensures.members

pub returns : goal.returns
returns c =
    let asked = c.args.question.now in
    let d = asked.spec.now in
    all_tried d asked.budget asked.pair (keys_of d asked.pair.first asked.pair.second) c.in-Ok.value
    (subst (λ (ks : List Key). AreKeyAnswers d asked.budget asked.pair.first asked.pair.second ks c.in-Ok.value) (c.as_slice.ensures ∙ c.in_ok-keys.ensures.list) c.in-Ok.ensures)
    c.args.found.now (sym c.is_refuted.ensures ∙ c.if-not-is_refuted.false)
