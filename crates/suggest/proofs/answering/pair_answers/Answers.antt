use Rattle.std.proofs.Common.{List, ◌+◌, take, get_or, subst, sym}
use Rattle.std.proofs.lemmas.List.Elements.{Contains-get_or}
use Rattle.suggest.specs.Answers.{AreAnswers}
use Rattle.suggest.specs.declared.answer.Pair.{Pair}
use Rattle.suggest.specs.declared.answer.PairAnswer.{PairAnswer}
use Rattle.suggest.proofs.Written.{pair_answered, all_answered}
use Rattle.suggest.proofs.answering.pair_answers.Goals as goal

pub invariant_of-question-clause-is_pair : goal.invariant_of-question-clause-is_pair
invariant_of-question-clause-is_pair c =
    let p : Pair = record { first = 0; second = 0 } in
    c.requires.members (get_or c.args.pairs.now c.loop-pair.pair-index p) (Contains-get_or c.args.pairs.now c.loop-pair.pair-index p c.loop-pair-test.true)

pub loop-pair-preserved : goal.loop-pair-preserved
loop-pair-preserved c =
    subst (λ (xs : List PairAnswer). AreAnswers c.args.spec.now c.args.budget (take (c.loop-pair.pair-index + 1) c.args.pairs.now) xs) (sym c.in-Ok-push.ensures.ok)
    (pair_answered c.args.spec.now c.args.budget c.args.pairs.now c.loop-pair.pair-index (record { first = 0; second = 0 }) c.loop-pair.answers c.in-Ok.value
    c.loop-pair-test.true c.loop-pair.invariant c.in-Ok.ensures)

pub returns : goal.returns
returns c = all_answered c.args.spec.now c.args.budget c.args.pairs.now c.loop-pair.pair-index c.loop-pair.answers c.loop-pair-test.false c.loop-pair.auto.pair-index-end c.loop-pair.invariant
