use Rattle.report_bytes.proofs.Cutting.{first_feed, no_feeds}
use Rattle.report_bytes.proofs.lines.line_len.Goals as goal

pub returns-in-Some-clause-len : goal.returns-in-Some-clause-len
returns-in-Some-clause-len c = first_feed c.args.bytes.now c.in-Some.place c.in-Some.ensures

pub returns-in-None-clause-len : goal.returns-in-None-clause-len
returns-in-None-clause-len c = no_feeds c.args.bytes.now c.in-None.ensures
