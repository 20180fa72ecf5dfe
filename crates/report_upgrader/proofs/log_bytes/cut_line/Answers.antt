use Rattle.report_upgrader.proofs.LogBytes.{long_line, long_behind}
use Rattle.report_upgrader.proofs.log_bytes.cut_line.Goals as goal

pub returns : goal.returns
returns c = λ h. (long_line c.args.len c.args.bytes.now h, long_behind c.args.len c.args.bytes.now h)
