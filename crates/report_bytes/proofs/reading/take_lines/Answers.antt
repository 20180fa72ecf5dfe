use Rattle.std.proofs.Common.{arith}
use Rattle.report_bytes.specs.Collecting.{nothing_kept}
use Rattle.report_bytes.proofs.Following.{onward_end, onward_more, onward_over, refused_there}
use Rattle.report_bytes.proofs.reading.take_lines.Goals as goal

pub returns-in_default-clause-ok : goal.returns-in_default-clause-ok
returns-in_default-clause-ok c = onward_end c.args.reader.now nothing_kept c.args.bytes.now c.lines.reader c.lines.collected c.lines.rest.now c.lines.invariant.0 c.in_default.ensures.none

pub returns-in-Err-clause-refused : goal.returns-in-Err-clause-refused
returns-in-Err-clause-refused c =
    refused_there c.args.reader.now nothing_kept c.args.bytes.now c.lines.reader c.lines.collected c.lines.rest.now c.in-Some.line.now c.in-Some.behind.now c.take_line.new.reader c.take_line.new.collected c.in-Err.error
    c.lines.invariant.0 c.in-Some.ensures.some c.in-Err.ensures

pub lines-preserved : goal.lines-preserved
lines-preserved c = (
  onward_more c.args.reader.now nothing_kept c.args.bytes.now c.lines.reader c.lines.collected c.lines.rest.now c.in-Some.line.now c.in-Some.behind.now c.take_line.new.reader c.take_line.new.collected c.lines.invariant.0 c.in-Some.ensures.some c.in-Ok.ensures,
  omega (arith, c.in-Some.ensures.fewer, c.lines.invariant.1),
)

pub returns-clause-ok : goal.returns-clause-ok
returns-clause-ok c = onward_over c.args.reader.now nothing_kept c.args.bytes.now c.lines.reader c.lines.collected c.lines.rest.now c.lines.taken c.lines.invariant.0 c.lines.invariant.1 (omega arith)
