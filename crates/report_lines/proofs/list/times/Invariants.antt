use Rattle.std.proofs.Common.{◌≡◌, ◌-◌}
use Rattle.report_lines.specs.Formats.{times_at}
use Rattle.report_lines.specs.Words.{left}
use Rattle.report_lines.proofs.Loops.{with_front}
use Rattle.report_lines.proofs.list.times.Given as goal

abbrev pub invariant-entries : goal.invariant-entries
invariant-entries g l = with_front l.entries (times_at g.T.Entry.format (l.count - l.counter) (left l.rest)) ≡ times_at g.T.Entry.format l.count (left l.words)
