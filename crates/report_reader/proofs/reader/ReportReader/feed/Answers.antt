use Rattle.std.proofs.Common.{◌+◌, Ok, refl, subst}
use Rattle.report_reader.specs.Reader.{ReaderForm, IsAnswered}
use Rattle.report_reader.proofs.Answering.{answered}
use Rattle.report_reader.proofs.reader.ReportReader.feed.Goals as goal

pub returns-in-Ok : goal.returns-in-Ok
returns-in-Ok c =
    let i = c.self.inside in
    let r : ReaderForm = record { spec = i.spec.now; state = i.state; number = i.number; budget = i.budget; fault = i.fault } in
    let q : ReaderForm = record { spec = i.spec.now; state = c.step.new.state; number = i.number + 1; budget = c.stated-self-inside.result; fault = i.fault } in
    subst (λ (x : ReaderForm). IsAnswered x c.args.text.now q (Ok c.in-Ok.told.fed)) c.self.view_is
    (answered r c.args.text.now c.step.new.state c.in-Ok.told (i.number + 1) c.stated-self-inside.result c.in_default.is c.in-Ok.ensures.step refl c.stated-self-inside.ensures)
