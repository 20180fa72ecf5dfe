use Rattle.std.proofs.Common.{List, subst, sym, ◌∙◌}
use Rattle.std.specs.List.{Contains}
use Rattle.suggest.specs.Pairs.{IsPair}
use Rattle.suggest.specs.Answers.{AreAnswers}
use Rattle.suggest.specs.declared.answer.Pair.{Pair}
use Rattle.suggest.proofs.answering.pairs.Goals as goal

pub pair_answers-requires-clause-members : goal.pair_answers-requires-clause-members
pair_answers-requires-clause-members c =
    subst (λ (ps : List Pair). (x : Pair) → Contains ps x → IsPair c.args.spec.now x.first x.second) (sym c.as_slice.ensures) c.in_ok-pairs.ensures.members

pub returns : goal.returns
returns c =
    subst (λ (ps : List Pair). AreAnswers c.args.spec.now c.args.budget ps c.in-Ok-pair_answers.value) (c.as_slice.ensures ∙ c.in_ok-pairs.ensures.list) c.in-Ok-pair_answers.ensures
