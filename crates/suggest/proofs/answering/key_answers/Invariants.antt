use Rattle.std.proofs.Common.{take}
use Rattle.suggest.specs.Answers.{AreKeyAnswers}
use Rattle.suggest.proofs.answering.key_answers.Given as goal

abbrev pub invariant-loop-key : goal.invariant-loop-key
invariant-loop-key l =
    AreKeyAnswers l.question.spec.now l.question.budget l.question.pair.first l.question.pair.second (take l.key-index l.keys) l.answers
