use Rattle.std.proofs.Common.{◌≡◌, ◌≤◌, ◌++◌, ℕ, List, Option, length, take, drop}
use Rattle.proof_lines.specs.declared.line.Line.{Line}
use Rattle.proof_report.specs.Texts.{log_text}
use Rattle.report_upgrader.specs.UpgradedLogs.{upgraded}
use Rattle.report_bytes.specs.Bytes.{pieces}
use Rattle.report_verifier.specs.Notes.{AreNotedTo}
use Rattle.report_upgrader.specs.Passing.{IsPlanned, IsGathered}
use Rattle.report_upgrader.proofs.LogBytes.{IsWriting}
use Rattle.report_upgrader.proofs.log_writing.write_lines.Given as goal

abbrev pub invariant-lines : goal.invariant-lines
invariant-lines g l = record {
  lines : (ls : List Line) → IsPlanned ls l.count (pieces l.lines.bytes.now) l.plan → (whole rest : List ℕ) (before : Option (List ℕ))
      → IsGathered whole before (g.K.Sink.held l.initial.out) l.initial.text.items (log_text (upgraded ls) ++ rest)
      → IsWriting l.plan ls l.taken (pieces (drop l.run l.from)) whole before (g.K.Sink.held l.out) (l.text.items ++ take l.run l.from) rest;
  within : l.run ≤ length l.from;
  behind : drop l.taken (pieces l.lines.bytes.now) ≡ pieces (drop l.run l.from);
  fewer : length l.from ≤ length l.lines.bytes.now;
  noted : (end : List ℕ) → AreNotedTo l.lines.notes.now l.lines.bytes.now end → AreNotedTo (drop l.taken l.lines.notes.now) (drop l.run l.from) end;
  never_falls : g.K.Sink.faults l.initial.out ≤ g.K.Sink.faults l.out;
}
