use Rattle.report_bytes.proofs.Cutting.{line_none, line_more, fewer}
use Rattle.report_bytes.proofs.lines.next_line.Goals as goal

pub returns-then-len-bytes-clause-none : goal.returns-then-len-bytes-clause-none
returns-then-len-bytes-clause-none c = line_none c.args.bytes.now _ c.line_len-len.ensures.len c.if-len-bytes.true

pub returns-clause-some : goal.returns-clause-some
returns-clause-some c = line_more c.args.bytes.now _ c.line_len-len.ensures.len c.line_len-len.ensures.within c.if-len-bytes.false

pub returns-clause-fewer : goal.returns-clause-fewer
returns-clause-fewer c = fewer c.args.bytes.now _ c.line_len-len.ensures.within c.if-len-bytes.false
