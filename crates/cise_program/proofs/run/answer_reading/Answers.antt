use Rattle.std.proofs.Common.{subst, inr, inl, ◌∙◌, ap, take}
use Rattle.byte_ports.specs.Ending.{IsOne, IsFrontOf}
use Rattle.byte_ports.proofs.Endings.{Ends-map}
use Rattle.byte_ports.proofs.Sources.{some_told}
use Rattle.spec_trees.specs.Form.{tree_of}
use Rattle.spec_from_bytes.specs.Reading.{IsReadingOf}
use Rattle.cise_program.specs.Answer.{IsOutcome, IsOutcomeFront, IsAnswerOf, IsFrontOfAnswer}
use Rattle.cise_program.proofs.run.answer_reading.Goals as goal

pub returns-in-Specified-clause-ends : goal.returns-in-Specified-clause-ends
returns-in-Specified-clause-ends g c = λ bytes h.
    let task = c.args.task in
    let tree = tree_of c.in-Specified.tree in
    let d = c.in-Specified.spec in
    let read = subst (IsReadingOf bytes) c.in-Specified.is h in
    let ends = c.do_task.ensures.ends in (
      ends.0,
      ends.1,
      Ends-map (IsOutcome task tree d ends.0) (IsAnswerOf task bytes ends.0) (IsOutcomeFront task tree d ends.0) (IsFrontOfAnswer task bytes ends.0) c.do_task.result _ _
          (λ s t done. inr (tree, d, read, done)) (λ front left. inr (tree, d, read, left)) ends.2,
    )

pub returns-in-Refused-clause-ends : goal.returns-in-Refused-clause-ends
returns-in-Refused-clause-ends g c = λ bytes h.
    let task = c.args.task in let text = c.as_slice.result.now in
    let given = some_told (g.E.Source.left c.args.extra.now) in
    let said = subst (IsReadingOf bytes) c.in-Refused.is h in
    let text_is = c.as_slice.ensures.value ∙ said.2 in (
      given.0,
      given.1,
      Ends-map (IsOne 3 text) (IsAnswerOf task bytes given.0) (IsFrontOf text) (IsFrontOfAnswer task bytes given.0) c.write_answer.result _ _
          (λ s t one. inl (said.0, said.1, (one.0, one.1 ∙ text_is))) (λ front left. inl (said.0, said.1, (left.0, left.1 ∙ ap (take left.0) text_is))) c.write_answer.ensures.ends,
    )

pub returns-in-Refused-clause-end : goal.returns-in-Refused-clause-end
returns-in-Refused-clause-end g c = λ below takes other. absurd (other (c.write_answer.ensures.ends.answered below).1.0)

pub returns-in-Specified-clause-end : goal.returns-in-Specified-clause-end
returns-in-Specified-clause-end g c = λ below takes other. c.do_task.ensures.end below takes
