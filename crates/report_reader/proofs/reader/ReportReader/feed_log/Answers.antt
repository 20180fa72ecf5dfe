use Rattle.std.proofs.Common.{◌≡◌, ◌+◌, Bool, None, Some, Ok, refl, sym, ap, ◌∙◌, subst}
use Rattle.report_lines.specs.Formats.{read}
use Rattle.report_lines.specs.Words.{parts}
use Rattle.proof_report.specs.declared.event.Event.TheVariants as events
use Rattle.report_reader.specs.declared.feeding.Told.{Told}
use Rattle.proof_report.specs.declared.place.State.{State}
use Rattle.proof_report.specs.declared.verdict.Fed.{Fed}
use Rattle.proof_report.specs.Feeding.{log_line, drops_in}
use Rattle.report_reader.specs.Reader.{ReaderForm, IsStep, IsAnswered}
use Rattle.report_reader.proofs.Answering.{answered, logged}
use Rattle.report_reader.proofs.Kept.{few_told}
use Rattle.report_reader.proofs.reader.ReportReader.feed_log.Goals as goal

pub one_less-requires : goal.one_less-requires
one_less-requires c = few_told c.self.inside.spec.now c.self.inside.state.tally c.self.inside.state.place c.well_formed-2.ensures c.self.invariant.1

pub returns-in-Ok : goal.returns-in-Ok
returns-in-Ok c =
    let i = c.self.inside in
    let d = i.spec.now in
    let words = parts c.args.text.now in
    let r : ReaderForm = record { spec = d; state = i.state; number = i.number; budget = i.budget; fault = i.fault } in
    let q : ReaderForm = record { spec = d; state = c.one_less.new.state; number = i.number + 1; budget = i.budget; fault = i.fault } in
    let told : Fed = record { begin = None; log = Some c.in-Ok.line; ended = c.log_end-ended.result } in
    let x : Told = record { fed = told; budget = None } in
    let clear : r.fault ≡ None = ap (λ (y : ReaderForm). y.fault) c.self.view_is ∙ c.requires.fault in
    let place = ap (λ (y : ReaderForm). y.state.place) c.self.view_is ∙ c.requires.place in
    let was : read (log_line (drops_in i.state.version c.args.log_of)) words ≡ Some (events.Log c.in-Ok.line)
    = subst (λ (b : Bool). read (log_line b) words ≡ Some (events.Log c.in-Ok.line)) c.drops.ensures c.in-Ok.ensures in
    let step : IsStep d i.state words c.one_less.new.state (Ok x)
    = subst (λ (u : State). IsStep d i.state words u (Ok x)) (sym c.one_less.ensures)
    (logged d i.state.version i.state.tally i.state.place c.args.log_of c.args.lines words c.in-Ok.line told place c.requires.some was refl refl (c.log_end-ended.ensures d)) in
    subst (λ (y : ReaderForm). IsAnswered y c.args.text.now q (Ok told)) c.self.view_is
    (answered r c.args.text.now c.one_less.new.state x (i.number + 1) i.budget clear step refl refl)
