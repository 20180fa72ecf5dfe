use Rattle.report_bytes.specs.Bytes.{report_bytes}
use Rattle.report_upgrader.specs.Reports.{upgraded_report}
use Rattle.report_upgrader.specs.Passing.{Task}
use Rattle.report_upgrader.proofs.Steps.{begun}
use Rattle.report_upgrader.proofs.rewriting.write_upgraded.Goals as goal

pub returns-in-Ok-clause-ok : goal.returns-in-Ok-clause-ok
returns-in-Ok-clause-ok g c = λ r stands same.
    let d = c.args.spec.now in
    let before = g.K.Sink.held c.args.out.now in
    let task : Task = record { spec = d; whole = report_bytes d (upgraded_report r); before = before } in
    c.take_lines.ensures.ok task
    (begun d c.args.lines.bytes.now c.in-Some.field-0-0.now c.in-Some.behind.bytes.now r c.write_title.new.out.items c.new-text.result.items before
    c.well_formed-2.ensures stands same c.in-Some.ensures.some c.new-text.ensures.items c.in-Ok.ensures)

pub returns-in-Ok-clause-front : goal.returns-in-Ok-clause-front
returns-in-Ok-clause-front g c = λ r stands same.
    let d = c.args.spec.now in
    let before = g.K.Sink.held c.args.out.now in
    let task : Task = record { spec = d; whole = report_bytes d (upgraded_report r); before = before } in
    c.take_lines.ensures.front task
    (begun d c.args.lines.bytes.now c.in-Some.field-0-0.now c.in-Some.behind.bytes.now r c.write_title.new.out.items c.new-text.result.items before
    c.well_formed-2.ensures stands same c.in-Some.ensures.some c.new-text.ensures.items c.in-Ok.ensures)
