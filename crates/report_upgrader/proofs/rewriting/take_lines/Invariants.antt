use Rattle.std.proofs.Common.{◌+◌, ◌≤◌, length}
use Rattle.report_verifier.specs.Notes.{AreNoted}
use Rattle.report_upgrader.specs.Passing.{Task, IsUnderway}
use Rattle.report_upgrader.proofs.rewriting.take_lines.Given as goal

abbrev pub invariant-lines : goal.invariant-lines
invariant-lines g l = record {
  way : (task : Task) → IsUnderway task (record { rest = l.lines.bytes.now; text = l.initial.text.items }) (g.K.Sink.held l.initial.out)
      → IsUnderway task (record { rest = l.rest.bytes.now; text = l.text.items }) (g.K.Sink.held l.out);
  never_falls : g.K.Sink.faults l.initial.out ≤ g.K.Sink.faults l.out;
  fewer : length l.rest.bytes.now + l.taken ≤ length l.lines.bytes.now;
  noted : AreNoted l.rest.notes.now l.rest.bytes.now;
}
