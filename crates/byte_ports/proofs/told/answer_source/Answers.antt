use Rattle.std.proofs.Common.{ap, refl, subst, length, ◌≤◌, Ok, arith, rules}
use Rattle.std.specs.Prelude.{Err}
use Rattle.std.specs.Fn.{FnReturnsAt}
use Rattle.byte_ports.specs.Told.{IsAnswerWithin}
use Rattle.byte_ports.proofs.Sources.{long_told, read_told, read_at_end, read_of_many}
use Rattle.byte_ports.proofs.told.answer_source.Goals as goal

pub returns-in-Ok-too_long-clause-ok : goal.returns-in-Ok-too_long-clause-ok
returns-in-Ok-too_long-clause-ok g c =
    let answer = c.in-Ok-too_long.answer in
    long_told c.args.most (λ bytes. IsAnswerWithin c.args.most c.args.long.now (FnReturnsAt g.F.Fn c.args.job) bytes answer.status answer.text.items) (g.S.Source.left c.args.source.now)
    (c.in-Err-TooLong.ensures.too_long (ap Err c.in-Err-TooLong.field-0-is)) (λ bytes over. record { given = λ within. absurd (omega (arith, over, within)); too_many = λ more. (c.in-Ok-too_long.ensures.status, c.in-Ok-too_long.ensures.text) })

pub returns-in-Ok-job-clause-ok : goal.returns-in-Ok-job-clause-ok
returns-in-Ok-job-clause-ok g c =
    let answer = c.in-Ok-job.answer in let given = c.as_slice.result.now in
    let len = c.as_slice.ensures.len in let few = c.in-Ok.ensures.within in
    let within : length given ≤ c.args.most = omega (arith, len, few) in
    let gives : FnReturnsAt g.F.Fn c.args.job given (Ok answer) = search rules in
    read_told (λ bytes. IsAnswerWithin c.args.most c.args.long.now (FnReturnsAt g.F.Fn c.args.job) bytes answer.status answer.text.items) (g.S.Source.left c.args.source.now)
    c.in-Ok.bytes.items c.in-Ok.ensures.ok
    (subst (λ bytes. IsAnswerWithin c.args.most c.args.long.now (FnReturnsAt g.F.Fn c.args.job) bytes answer.status answer.text.items) c.as_slice.ensures.value
    (record { given = λ few. (answer, gives, (refl, refl)); too_many = λ over. absurd (omega (arith, over, within)) }))

pub returns-in-Ok-job-clause-end : goal.returns-in-Ok-job-clause-end
returns-in-Ok-job-clause-end g c = read_at_end c.args.most (g.S.Source.left c.args.source.now) (g.S.Source.left c.read_up_to.new.src) c.in-Ok.ensures.end

pub returns-in-Ok-too_long-clause-end : goal.returns-in-Ok-too_long-clause-end
returns-in-Ok-too_long-clause-end g c =
    read_of_many c.args.most (g.S.Source.left c.args.source.now) (g.S.Source.left c.read_up_to.new.src) (c.in-Err-TooLong.ensures.too_long (ap Err c.in-Err-TooLong.field-0-is))
