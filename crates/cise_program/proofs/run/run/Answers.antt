use Rattle.std.proofs.Common.{Option, Some, None, subst, map, string_bytes, sym, ap, ◌∙◌, arith}
use Rattle.cise_program.specs.declared.words.Job.{Job}
use Rattle.cise_program.specs.declared.words.Job.TheVariants.{OfSpec, Sample}
use Rattle.cise_program.specs.Outside.{told_by, failures_of, held_by}
use Rattle.cise_program.specs.Words.{job_of, asked}
use Rattle.cise_program.specs.Answer.{IsAnswer}
use Rattle.cise_program.proofs.Endings.{Ends-asked, Ends-sample, IsInputFault-asked}
use Rattle.cise_program.proofs.Ends.{AreRead-asked}
use Rattle.cise_program.proofs.Complete.{IsComplete-run}
use Rattle.cise_program.proofs.Headline.{replayed_safely, simulated_safely}
use Rattle.cise_program.proofs.Outcomes.{is_outcome-low}
use Rattle.cise_program.proofs.run.run.Goals as goal

-- ---- a task

pub returns-in-Some-OfSpec-clause-answered : goal.returns-in-Some-OfSpec-clause-answered
returns-in-Some-OfSpec-clause-answered g c =
    (Ends-asked (OfSpec c.in-Some-OfSpec.task) (asked c.args.words.now) (g.S.Source.left c.args.spec.now) (g.E.Source.left c.args.extra.now) c.answer_task.result _ _
    (ap Some (sym c.in-Some-OfSpec.field-0-is) ∙ c.in-Some-OfSpec.ensures) c.answer_task.ensures.ends).answered

pub returns-in-Some-OfSpec-clause-front : goal.returns-in-Some-OfSpec-clause-front
returns-in-Some-OfSpec-clause-front g c =
    (Ends-asked (OfSpec c.in-Some-OfSpec.task) (asked c.args.words.now) (g.S.Source.left c.args.spec.now) (g.E.Source.left c.args.extra.now) c.answer_task.result _ _
    (ap Some (sym c.in-Some-OfSpec.field-0-is) ∙ c.in-Some-OfSpec.ensures) c.answer_task.ensures.ends).front

pub returns-in-Some-OfSpec-clause-read_fault : goal.returns-in-Some-OfSpec-clause-read_fault
returns-in-Some-OfSpec-clause-read_fault g c = λ six.
    IsInputFault-asked (OfSpec c.in-Some-OfSpec.task) (asked c.args.words.now)
    (failures_of g.S.Source.faults g.E.Source.faults c.args.spec.now c.args.extra.now)
    (failures_of g.S.Source.faults g.E.Source.faults c.answer_task.new.spec c.answer_task.new.extra)
    (ap Some (sym c.in-Some-OfSpec.field-0-is) ∙ c.in-Some-OfSpec.ensures) (c.answer_task.ensures.read_fault six)

pub returns-in-Some-OfSpec-clause-read : goal.returns-in-Some-OfSpec-clause-read
returns-in-Some-OfSpec-clause-read g c = λ below.
    AreRead-asked (Some (OfSpec c.in-Some-OfSpec.task)) (asked c.args.words.now) c.answer_task.result
    (told_by g.S.Source.left g.E.Source.left c.args.spec.now c.args.extra.now)
    (told_by g.S.Source.left g.E.Source.left c.answer_task.new.spec c.answer_task.new.extra)
    (ap Some (sym c.in-Some-OfSpec.field-0-is) ∙ c.in-Some-OfSpec.ensures) (c.answer_task.ensures.read below)

pub returns-in-Some-OfSpec-clause-proved : goal.returns-in-Some-OfSpec-clause-proved
returns-in-Some-OfSpec-clause-proved g c = λ zero judged.
    let words = map string_bytes c.args.words.now in
    let told = g.S.Source.left c.args.spec.now in
    let extra = g.E.Source.left c.args.extra.now in
    let answer = returns-in-Some-OfSpec-clause-answered g c (omega (arith, zero)) in
    c.law_headline.ensures.proved words told extra answer.0 judged (subst (λ n. IsAnswer (job_of words) told extra n answer.0) zero answer.1)

pub returns-in-Some-OfSpec-clause-refuted : goal.returns-in-Some-OfSpec-clause-refuted
returns-in-Some-OfSpec-clause-refuted g c = λ outcome.
    let answer = returns-in-Some-OfSpec-clause-answered g c (is_outcome-low c.answer_task.result outcome) in
    c.law_headline.ensures.refuted (map string_bytes c.args.words.now) (told_by g.S.Source.left g.E.Source.left c.args.spec.now c.args.extra.now) c.answer_task.result answer.0
    (held_by g.K.Sink.held c.args.out.now c.answer_task.new.out) outcome answer.1 answer.2

pub returns-in-Some-OfSpec-clause-safe : goal.returns-in-Some-OfSpec-clause-safe
returns-in-Some-OfSpec-clause-safe g c = λ replay.
    replayed_safely (asked c.args.words.now) (g.S.Source.left c.args.spec.now) (g.E.Source.left c.args.extra.now) c.answer_task.result replay
    (λ below. let a = returns-in-Some-OfSpec-clause-answered g c below in (a.0, a.1))

pub returns-in-Some-OfSpec-clause-stopped : goal.returns-in-Some-OfSpec-clause-stopped
returns-in-Some-OfSpec-clause-stopped g c = λ high.
    c.law_headline.ensures.stopped (map string_bytes c.args.words.now) (told_by g.S.Source.left g.E.Source.left c.args.spec.now c.args.extra.now)
    (held_by g.K.Sink.held c.args.out.now c.answer_task.new.out)
    (returns-in-Some-OfSpec-clause-front g c high)

pub returns-in-Some-OfSpec-clause-verified : goal.returns-in-Some-OfSpec-clause-verified
returns-in-Some-OfSpec-clause-verified g c = λ outcome writes.
    let answer = returns-in-Some-OfSpec-clause-answered g c (is_outcome-low c.answer_task.result outcome) in
    c.law_reports_are_verified.ensures (map string_bytes c.args.words.now) (told_by g.S.Source.left g.E.Source.left c.args.spec.now c.args.extra.now) c.answer_task.result answer.0
    (held_by g.K.Sink.held c.args.out.now c.answer_task.new.out) outcome writes answer.1 answer.2

pub returns-in-Some-OfSpec-clause-simulated : goal.returns-in-Some-OfSpec-clause-simulated
returns-in-Some-OfSpec-clause-simulated g c = λ simulation.
    simulated_safely (asked c.args.words.now) (g.S.Source.left c.args.spec.now) (g.E.Source.left c.args.extra.now) c.answer_task.result simulation
    (λ below. let a = returns-in-Some-OfSpec-clause-answered g c below in (a.0, a.1))

pub returns-in-Some-OfSpec-clause-suggested : goal.returns-in-Some-OfSpec-clause-suggested
returns-in-Some-OfSpec-clause-suggested g c = λ suggestion outcome.
    let answer = returns-in-Some-OfSpec-clause-answered g c (is_outcome-low c.answer_task.result outcome) in
    c.law_headline.ensures.suggested (map string_bytes c.args.words.now) (told_by g.S.Source.left g.E.Source.left c.args.spec.now c.args.extra.now) c.answer_task.result answer.0
    (held_by g.K.Sink.held c.args.out.now c.answer_task.new.out) suggestion outcome answer.1 answer.2

pub returns-in-Some-OfSpec-clause-least : goal.returns-in-Some-OfSpec-clause-least
returns-in-Some-OfSpec-clause-least g c = λ reads three.
    let words = map string_bytes c.args.words.now in
    let told = g.S.Source.left c.args.spec.now in
    let extra = g.E.Source.left c.args.extra.now in
    let answer = returns-in-Some-OfSpec-clause-answered g c (omega (arith, three)) in
    c.law_least_fault_is_answered.ensures words (told_by g.S.Source.left g.E.Source.left c.args.spec.now c.args.extra.now) answer.0 (held_by g.K.Sink.held c.args.out.now c.answer_task.new.out) reads
    (subst (λ n. IsAnswer (job_of words) told extra n answer.0) three answer.1) answer.2

pub returns-in-Some-OfSpec-clause-complete : goal.returns-in-Some-OfSpec-clause-complete
returns-in-Some-OfSpec-clause-complete g c = λ no_input no_output.
    IsComplete-run (asked c.args.words.now) (g.S.Source.left c.args.spec.now) (g.E.Source.left c.args.extra.now) c.answer_task.result
    c.answer_task.ensures.ends.known (λ six. no_input (returns-in-Some-OfSpec-clause-read_fault g c six)) (λ seven. no_output (c.answer_task.ensures.ends.write_fault seven))
    (λ below. let a = returns-in-Some-OfSpec-clause-answered g c below in (a.0, a.1))

-- ---- a sample

pub returns-in-Some-Sample-clause-answered : goal.returns-in-Some-Sample-clause-answered
returns-in-Some-Sample-clause-answered g c =
    (Ends-sample c.in-Some-Sample.number (asked c.args.words.now) (g.S.Source.left c.args.spec.now) (g.E.Source.left c.args.extra.now) c.sample.result _ _
    (ap Some (sym c.in-Some-Sample.field-0-is) ∙ c.in-Some-Sample.ensures) c.sample.ensures.ends).answered

pub returns-in-Some-Sample-clause-front : goal.returns-in-Some-Sample-clause-front
returns-in-Some-Sample-clause-front g c =
    (Ends-sample c.in-Some-Sample.number (asked c.args.words.now) (g.S.Source.left c.args.spec.now) (g.E.Source.left c.args.extra.now) c.sample.result _ _
    (ap Some (sym c.in-Some-Sample.field-0-is) ∙ c.in-Some-Sample.ensures) c.sample.ensures.ends).front

pub returns-in-Some-Sample-clause-stopped : goal.returns-in-Some-Sample-clause-stopped
returns-in-Some-Sample-clause-stopped g c = λ high.
    c.law_headline.ensures.stopped (map string_bytes c.args.words.now) (told_by g.S.Source.left g.E.Source.left c.args.spec.now c.args.extra.now)
    (held_by g.K.Sink.held c.args.out.now c.sample.new.out)
    (returns-in-Some-Sample-clause-front g c high)

pub returns-in-Some-Sample-clause-read : goal.returns-in-Some-Sample-clause-read
returns-in-Some-Sample-clause-read g c = λ below.
    AreRead-asked (Some (Sample c.in-Some-Sample.number)) (asked c.args.words.now) c.sample.result
    (told_by g.S.Source.left g.E.Source.left c.args.spec.now c.args.extra.now)
    (told_by g.S.Source.left g.E.Source.left c.args.spec.now c.args.extra.now)
    (ap Some (sym c.in-Some-Sample.field-0-is) ∙ c.in-Some-Sample.ensures) tt

-- ---- other words

pub returns-in-None-clause-read : goal.returns-in-None-clause-read
returns-in-None-clause-read g c = λ below.
    let none : Option Job = None in
    AreRead-asked none (asked c.args.words.now) c.write_answer.result
    (told_by g.S.Source.left g.E.Source.left c.args.spec.now c.args.extra.now)
    (told_by g.S.Source.left g.E.Source.left c.args.spec.now c.args.extra.now) (sym c.in-None.is ∙ c.job_asked.ensures) tt
