use Rattle.std.proofs.Common.{◌+◌, Ok, refl, subst}
use Rattle.report_reader.specs.Reader.{ReaderForm, IsAnswered}
use Rattle.report_reader.specs.Resolving.{resolve_told}
use Rattle.report_reader.proofs.ResolveLines.{resolve_answered}
use Rattle.proof_report.proofs.Sound.{at}
use Rattle.report_reader.proofs.reader.ReportReader.feed_resolve.Goals as goal

pub returns-clause-some : goal.returns-clause-some
returns-clause-some c =
    let i = c.self.inside in
    let r : ReaderForm = record { spec = i.spec.now; state = i.state; number = i.number; budget = i.budget; fault = i.fault } in
    let q : ReaderForm = record { spec = i.spec.now; state = at i.state.version i.state.tally c.count_down.new.place; number = i.number + 1; budget = i.budget; fault = i.fault } in
    subst (λ (x : ReaderForm). IsAnswered x c.args.text.now q (Ok (resolve_told c.in-Ok.line))) c.self.view_is
    (resolve_answered r c.args.text.now c.count_down.new.place c.in-Ok.line (i.number + 1) c.in_default.is (c.count_down.ensures.down c.if-not-count_down.false) c.in-Ok.ensures refl)
