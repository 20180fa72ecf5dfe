use Rattle.std.proofs.Common.{◌++◌, take}
use Rattle.proof_report.specs.Texts.{log_text}
use Rattle.report_upgrader.specs.Plans.{written_for}
use Rattle.report_upgrader.proofs.Gathered.{gathered_more, gathered_still}
use Rattle.report_upgrader.proofs.log_writing.write_next.Goals as goal

pub returns-in-Ok-clause-ok : goal.returns-in-Ok-clause-ok
returns-in-Ok-clause-ok g c = λ h l pair text whole rest before so.
    c.write_much.ensures.ok whole rest before
    (gathered_more whole before (g.K.Sink.held c.args.out.now) (c.args.text.now.items ++ take c.args.run c.args.from.now) (log_text (written_for c.args.rewritten l)) rest c.put_line.new.text.items so (c.in-Ok.ensures h l pair text))

pub returns-in-Ok-clause-front : goal.returns-in-Ok-clause-front
returns-in-Ok-clause-front g c = λ h l pair text whole rest before so.
    c.write_much.ensures.front whole rest before
    (gathered_more whole before (g.K.Sink.held c.args.out.now) (c.args.text.now.items ++ take c.args.run c.args.from.now) (log_text (written_for c.args.rewritten l)) rest c.put_line.new.text.items so (c.in-Ok.ensures h l pair text))

pub returns-in-Err-clause-front : goal.returns-in-Err-clause-front
returns-in-Err-clause-front g c = λ h l pair text whole rest before so. gathered_still whole before (g.K.Sink.held c.args.out.now) (c.args.text.now.items ++ take c.args.run c.args.from.now) (log_text (written_for c.args.rewritten l) ++ rest) so
