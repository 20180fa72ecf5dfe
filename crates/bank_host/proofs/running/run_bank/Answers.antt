use Rattle.std.proofs.Common.{◌≡◌, Option, Some, None, map, string_bytes, sym, ◌∙◌, refl}
use Rattle.byte_ports.proofs.Endings.{Ends-one}
use Rattle.byte_ports.proofs.Sources.{some_told}
use Rattle.bank_host.specs.declared.words.Command.{Command}
use Rattle.bank_host.specs.Running.{command_of, IsAnswer}
use Rattle.bank_host.proofs.Answering.{EndsIn-asked, not_asked}
use Rattle.bank_host.proofs.running.run_bank.Goals as goal

pub returns-in-Some-clause-ends : goal.returns-in-Some-clause-ends
returns-in-Some-clause-ends g c =
    let asked : Some c.in-Some.command ≡ command_of (map string_bytes c.args.words.now) = sym c.in-Some.is ∙ c.command_of.ensures in
    let ends = c.run_command.ensures.ends in
    (ends.0, ends.1, EndsIn-asked (Some c.in-Some.command) (command_of (map string_bytes c.args.words.now)) ends.0 c.run_command.result _ _ asked ends.2)

pub returns-in-None-clause-ends : goal.returns-in-None-clause-ends
returns-in-None-clause-ends g c =
    let given = some_told (g.S.Source.left c.args.schedule.now) in
    let none : Option Command = None in
    let asked : none ≡ command_of (map string_bytes c.args.words.now) = sym c.in-None.is ∙ c.command_of.ensures in (
      given.0,
      given.1,
      EndsIn-asked none (command_of (map string_bytes c.args.words.now)) given.0 c.write_answer.result _ _ asked
          (Ends-one (IsAnswer none given.0) 2 _ c.write_answer.result _ _ (record { status_is = refl; text_is = refl }) c.write_answer.ensures.ends),
    )

pub returns-in-None-clause-end : goal.returns-in-None-clause-end
returns-in-None-clause-end g c = λ below asked. absurd (not_asked (command_of (map string_bytes c.args.words.now)) (sym c.in-None.is ∙ c.command_of.ensures) asked)

pub returns-in-Some-clause-end : goal.returns-in-Some-clause-end
returns-in-Some-clause-end g c = λ below asked. c.run_command.ensures.end below
