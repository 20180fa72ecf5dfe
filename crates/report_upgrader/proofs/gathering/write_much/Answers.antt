use Rattle.report_upgrader.proofs.Gathered.{out_ok, out_err}
use Rattle.report_upgrader.proofs.gathering.write_much.Goals as goal

pub returns-clause-ok : goal.returns-clause-ok
returns-clause-ok g c = λ whole rest before so.
    out_ok c.write_out.result whole before (g.K.Sink.held c.args.out.now) (g.K.Sink.held c.write_out.new.out) c.args.text.now.items c.write_out.new.text.items rest so c.write_out.ensures.ok c.write_out.ensures.emptied

pub returns-clause-front : goal.returns-clause-front
returns-clause-front g c = λ whole rest before so.
    out_err c.write_out.result whole before (g.K.Sink.held c.args.out.now) (g.K.Sink.held c.write_out.new.out) c.args.text.now.items rest so c.write_out.ensures.front
