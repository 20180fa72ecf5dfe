use Rattle.std.proofs.Common.{take}
use Rattle.suggest.specs.Answers.{AreAnswers}
use Rattle.suggest.proofs.answering.pair_answers.Given as goal

abbrev pub invariant-loop-pair : goal.invariant-loop-pair
invariant-loop-pair l = AreAnswers l.spec l.budget (take l.pair-index l.pairs) l.answers
