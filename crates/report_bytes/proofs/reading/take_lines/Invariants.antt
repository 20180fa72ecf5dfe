use Rattle.std.proofs.Common.{◌+◌, ◌≤◌, length}
use Rattle.report_bytes.specs.Collecting.{nothing_kept}
use Rattle.report_bytes.proofs.Following.{Onward}
use Rattle.report_bytes.proofs.reading.take_lines.Given as goal

abbrev pub invariant-lines : goal.invariant-lines
invariant-lines l = Onward l.initial.reader nothing_kept l.bytes l.reader l.collected l.rest × (length l.rest + l.taken ≤ length l.bytes)
