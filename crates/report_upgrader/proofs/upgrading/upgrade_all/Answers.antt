use Rattle.report_upgrader.proofs.Held.{told_upgraded, too_long, not_told, read_as}
use Rattle.report_upgrader.proofs.upgrading.upgrade_all.Goals as goal

pub returns-in-Ok-clause-upgraded : goal.returns-in-Ok-clause-upgraded
returns-in-Ok-clause-upgraded g c =
    told_upgraded c.args.spec.now (g.E.Source.left c.args.report.now) c.as_slice.result.now (g.K.Sink.held c.args.out.now) (g.K.Sink.held c.upgrade_held.new.out) c.upgrade_held.result
    (read_as (g.E.Source.left c.args.report.now) c.in-Ok.bytes.items c.as_slice.result.now c.as_slice.ensures.value c.in-Ok.ensures.ok) c.upgrade_held.ensures.upgraded

pub returns-in-Err-TooLong-clause-upgraded : goal.returns-in-Err-TooLong-clause-upgraded
returns-in-Err-TooLong-clause-upgraded g c =
    too_long c.args.spec.now (g.E.Source.left c.args.report.now) (g.K.Sink.held c.args.out.now) (c.in-Err-TooLong.ensures.too_long (let e = c.in-Err-TooLong.field-0-is in cc))

pub returns-in-Err-Fault-clause-upgraded : goal.returns-in-Err-Fault-clause-upgraded
returns-in-Err-Fault-clause-upgraded g c = (not_told c.args.spec.now (g.E.Source.left c.args.report.now) (g.K.Sink.held c.args.out.now)).0

pub returns-in-Err-Memory-clause-upgraded : goal.returns-in-Err-Memory-clause-upgraded
returns-in-Err-Memory-clause-upgraded g c = (not_told c.args.spec.now (g.E.Source.left c.args.report.now) (g.K.Sink.held c.args.out.now)).1
