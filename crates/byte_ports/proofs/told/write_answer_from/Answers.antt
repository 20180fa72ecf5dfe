use Rattle.std.proofs.Common.{arith}
use Rattle.std.specs.Fn.{FnReturnsAt}
use Rattle.byte_ports.specs.Ending.{IsFrontOfOne}
use Rattle.byte_ports.specs.Told.{IsAnswerWithin}
use Rattle.byte_ports.proofs.Endings.{Ends-one, Ends-stopped}
use Rattle.byte_ports.proofs.Sources.{low_within, some_told}
use Rattle.byte_ports.proofs.told.write_answer_from.Goals as goal

pub write_answer-requires : goal.write_answer-requires
write_answer-requires g c =
    let answer = c.in-Ok.answer in let from = c.in-Ok.ensures.ok in
    low_within c.args.most c.args.long.now (FnReturnsAt g.F.Fn c.args.job) from.0 answer.status answer.text.items (λ a within gives. c.requires.low from.0 a within gives) from.2

pub returns-in-Ok-clause-ends : goal.returns-in-Ok-clause-ends
returns-in-Ok-clause-ends g c =
    let answer = c.in-Ok.answer in let from = c.in-Ok.ensures.ok in (
      from.0,
      from.1,
      Ends-one (IsAnswerWithin c.args.most c.args.long.now (FnReturnsAt g.F.Fn c.args.job) from.0) answer.status c.as_slice.result.now c.write_answer.result _ _
          (rw c.as_slice.ensures.value from.2) c.write_answer.ensures.ends,
    )

pub returns-in-Err-Fault-clause-ends : goal.returns-in-Err-Fault-clause-ends
returns-in-Err-Fault-clause-ends g c =
    let given = some_told (g.S.Source.left c.args.source.now) in
    let Whole = IsAnswerWithin c.args.most c.args.long.now (FnReturnsAt g.F.Fn c.args.job) given.0 in
    (given.0, given.1, Ends-stopped Whole (IsFrontOfOne Whole) 6 _ (omega arith) (omega arith) (omega arith))

pub returns-in-Err-Memory-clause-ends : goal.returns-in-Err-Memory-clause-ends
returns-in-Err-Memory-clause-ends g c =
    let given = some_told (g.S.Source.left c.args.source.now) in
    let Whole = IsAnswerWithin c.args.most c.args.long.now (FnReturnsAt g.F.Fn c.args.job) given.0 in
    (given.0, given.1, Ends-stopped Whole (IsFrontOfOne Whole) 8 _ (omega arith) (omega arith) (omega arith))
