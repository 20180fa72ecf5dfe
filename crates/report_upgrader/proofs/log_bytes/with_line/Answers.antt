use Rattle.report_upgrader.proofs.LogBytes.{ended_at}
use Rattle.report_upgrader.proofs.log_bytes.with_line.Goals as goal

pub returns : goal.returns
returns c = λ h. ended_at c.args.place c.args.len c.args.bytes.now h
