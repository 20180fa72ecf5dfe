use Rattle.std.proofs.Common.{Some, rules, arith}
use Rattle.byte_ports.specs.Ending.{IsFrontOfOne}
use Rattle.byte_ports.proofs.Endings.{Ends-stopped}
use Rattle.byte_ports.proofs.Sources.{some_told, said_from}
use Rattle.schedule_json.specs.Texts.{most_schedule_bytes, long_text}
use Rattle.bank_host.specs.Running.{IsAnswer}
use Rattle.bank_host.proofs.Answering.{long_answer, low_answer}
use Rattle.bank_host.proofs.running.run_command.Goals as goal

pub write_answer_from-requires-clause-low : goal.write_answer_from-requires-clause-low
write_answer_from-requires-clause-low g c = λ bytes answer within gives.
    let is : IsAnswer (Some c.args.command) bytes answer.status answer.text.items = search rules in
    low_answer c.args.command bytes answer.status answer.text.items is

pub returns-clause-ends : goal.returns-clause-ends
returns-clause-ends g c =
    let command = c.args.command in
    said_from (g.S.Source.left c.args.schedule.now) most_schedule_bytes long_text _ (IsAnswer (Some command)) c.write_answer_from.result _ _ c.write_answer_from.ensures.ends
    (λ bytes answer within gives. search rules) (long_answer command)

pub returns-in_default-clause-ends : goal.returns-in_default-clause-ends
returns-in_default-clause-ends g c =
    let given = some_told (g.S.Source.left c.args.schedule.now) in let Whole = IsAnswer (Some c.args.command) given.0 in
    (given.0, given.1, Ends-stopped Whole (IsFrontOfOne Whole) 8 _ (omega arith) (omega arith) (omega arith))

pub returns-clause-end : goal.returns-clause-end
returns-clause-end g c = c.write_answer_from.ensures.end
