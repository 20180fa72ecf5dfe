use Rattle.std.proofs.Common.{List, ◌+◌, take, get_or, subst, sym}
use Rattle.std.proofs.lemmas.List.Elements.{Contains-get_or}
use Rattle.suggest.specs.Answers.{AreKeyAnswers}
use Rattle.suggest.specs.declared.answer.Key.{Key}
use Rattle.suggest.specs.declared.answer.KeyAnswer.{KeyAnswer}
use Rattle.suggest.proofs.Appending.{key_answered, all_answered}
use Rattle.suggest.proofs.answering.key_answers.Goals as goal

pub key_answer-requires-clause-keyed : goal.key_answer-requires-clause-keyed
key_answer-requires-clause-keyed c =
    let k : Key = record { p = 0; q = 0 } in
    c.requires.keyed (get_or c.args.keys.now c.loop-key.key-index k) (Contains-get_or c.args.keys.now c.loop-key.key-index k c.loop-key-test.true)

pub loop-key-preserved : goal.loop-key-preserved
loop-key-preserved c =
    let asked = c.args.question.now in
    subst (λ (ys : List KeyAnswer). AreKeyAnswers asked.spec.now asked.budget asked.pair.first asked.pair.second (take (c.loop-key.key-index + 1) c.args.keys.now) ys) (sym c.in-Ok-push.ensures.ok)
    (key_answered asked.spec.now asked.budget asked.pair c.args.keys.now c.loop-key.key-index (record { p = 0; q = 0 }) c.loop-key.answers c.in-Ok.value
    c.loop-key-test.true c.loop-key.invariant c.in-Ok.ensures.key c.in-Ok.ensures.found)

pub returns : goal.returns
returns c =
    let asked = c.args.question.now in
    all_answered asked.spec.now asked.budget asked.pair c.args.keys.now c.loop-key.key-index c.loop-key.answers c.loop-key-test.false c.loop-key.auto.key-index-end c.loop-key.invariant
