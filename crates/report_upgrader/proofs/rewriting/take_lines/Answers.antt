use Rattle.std.proofs.Common.{length, arith}
use Rattle.report_upgrader.specs.Passing.{Progress}
use Rattle.report_upgrader.proofs.Steps.{no_line, all_written, front_written}
use Rattle.report_upgrader.proofs.rewriting.take_lines.Goals as goal

pub returns-in_default-clause-ok : goal.returns-in_default-clause-ok
returns-in_default-clause-ok g c = λ task way.
    let at : Progress = record { rest = c.lines.rest.bytes.now; text = c.lines.text.items } in
    all_written c.write_out.result task at (g.K.Sink.held c.lines.out) (g.K.Sink.held c.write_out.new.out) c.in_default.ensures.none (c.lines.invariant.way task way) c.write_out.ensures.ok

pub returns-in_default-clause-front : goal.returns-in_default-clause-front
returns-in_default-clause-front g c = λ task way.
    let at : Progress = record { rest = c.lines.rest.bytes.now; text = c.lines.text.items } in
    front_written c.write_out.result task at (g.K.Sink.held c.lines.out) (g.K.Sink.held c.write_out.new.out) (c.lines.invariant.way task way) c.write_out.ensures.front

pub returns-in-Err-clause-front : goal.returns-in-Err-clause-front
returns-in-Err-clause-front g c = λ task way. c.in-Err.ensures.front task c.lines.rest.bytes.now c.in-Some.ensures.some (c.lines.invariant.way task way)

pub returns-clause-ok : goal.returns-clause-ok
returns-clause-ok g c = λ task way.
    let at : Progress = record { rest = c.lines.rest.bytes.now; text = c.lines.text.items } in
    all_written c.write_out-2.result task at (g.K.Sink.held c.lines.out) (g.K.Sink.held c.write_out-2.new.out)
    (no_line c.lines.rest.bytes.now c.lines.taken (length c.args.lines.bytes.now) c.lines.invariant.fewer (omega arith)) (c.lines.invariant.way task way) c.write_out-2.ensures.ok

pub returns-clause-front : goal.returns-clause-front
returns-clause-front g c = λ task way.
    let at : Progress = record { rest = c.lines.rest.bytes.now; text = c.lines.text.items } in
    front_written c.write_out-2.result task at (g.K.Sink.held c.lines.out) (g.K.Sink.held c.write_out-2.new.out) (c.lines.invariant.way task way) c.write_out-2.ensures.front
