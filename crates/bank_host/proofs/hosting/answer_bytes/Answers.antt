use Rattle.std.proofs.Common.{Ok, ◌∙◌}
use Rattle.bank_host.proofs.Answering.{read_status, read_text, refusal_status, refusal_answer}
use Rattle.bank_host.proofs.hosting.answer_bytes.Goals as goal

pub returns-in_ok-report-in-Ok : goal.returns-in_ok-report-in-Ok
returns-in_ok-report-in-Ok c =
    let command = c.args.command in let bytes = c.args.bytes.now in let d = c.args.spec.now in let read = Ok c.in-Ok.schedule in record {
      status_is = c.in_ok-report-in-Ok.ensures.status ∙ read_status command bytes d read c.requires.spec c.requires.within c.in-Ok.ensures.ok;
      text_is = c.in_ok-report-in-Ok.ensures.text ∙ read_text command bytes d read c.requires.spec c.requires.within c.in-Ok.ensures.ok;
    }

pub returns-in_ok-text-in-Err : goal.returns-in_ok-text-in-Err
returns-in_ok-text-in-Err c =
    let command = c.args.command in let bytes = c.args.bytes.now in let d = c.args.spec.now in let why = c.in-Err.refused in record {
      status_is = refusal_status command bytes d why c.requires.spec c.requires.within c.in-Err.ensures.err c.in_ok-text-in-Err.ensures.some;
      text_is = refusal_answer command bytes d why c.requires.spec c.requires.within c.in-Err.ensures.err c.in_ok-text-in-Err.ensures.some c.in_ok-text-in-Err.text.items c.in_ok-text-in-Err.ensures.text;
    }
