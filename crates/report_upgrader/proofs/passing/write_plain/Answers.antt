use Rattle.std.proofs.Common.{◌++◌, ◌∷◌, []}
use Rattle.report_upgrader.proofs.Gathered.{gathered_more, gathered_still}
use Rattle.report_upgrader.proofs.passing.write_plain.Goals as goal

pub returns-in-Ok-clause-ok : goal.returns-in-Ok-clause-ok
returns-in-Ok-clause-ok g c = λ whole rest before so.
    c.write_much.ensures.ok whole rest before (gathered_more whole before (g.K.Sink.held c.args.out.now) c.args.text.now.items (c.args.line.now ++ 10 ∷ []) rest c.copy_line.new.text.items so c.in-Ok.ensures)

pub returns-in-Ok-clause-front : goal.returns-in-Ok-clause-front
returns-in-Ok-clause-front g c = λ whole rest before so.
    c.write_much.ensures.front whole rest before (gathered_more whole before (g.K.Sink.held c.args.out.now) c.args.text.now.items (c.args.line.now ++ 10 ∷ []) rest c.copy_line.new.text.items so c.in-Ok.ensures)

pub returns-in-Err-clause-front : goal.returns-in-Err-clause-front
returns-in-Err-clause-front g c = λ whole rest before so. gathered_still whole before (g.K.Sink.held c.args.out.now) c.args.text.now.items ((c.args.line.now ++ 10 ∷ []) ++ rest) so
