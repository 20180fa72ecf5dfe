use Rattle.std.proofs.Common.{Some}
use Rattle.byte_ports.proofs.Endings.{Ends-map}
use Rattle.cise_program.specs.declared.words.Job.TheVariants.{OfSpec}
use Rattle.cise_program.specs.Answer.{IsAnswerOf, IsFrontOfAnswer, IsAnswer, IsAnswerFront}
use Rattle.cise_program.proofs.run.answer_task.Goals as goal

pub returns-in-Ok-clause-ends : goal.returns-in-Ok-clause-ends
returns-in-Ok-clause-ends g c =
    let task = c.args.task in
    let told = g.S.Source.left c.args.spec.now in
    let extra = g.E.Source.left c.args.extra.now in
    let given = c.in-Ok.ensures.ok in
    let ends = c.answer_reading-status.ensures.ends given.0 given.2 in
    Ends-map (IsAnswerOf task given.0 ends.0) (IsAnswer (Some (OfSpec task)) told extra) (IsFrontOfAnswer task given.0 ends.0) (IsAnswerFront (Some (OfSpec task)) told extra)
    c.answer_reading-status.result _ _
    (λ s t a. (given.0, ends.0, given.1, ends.1, a)) (λ front a. (given.0, ends.0, given.1, ends.1, a)) ends.2

pub returns-in-Ok-clause-read : goal.returns-in-Ok-clause-read
returns-in-Ok-clause-read g c = λ below. (c.in-Ok.ensures.end, λ takes other. c.answer_reading-status.ensures.end below takes other)
