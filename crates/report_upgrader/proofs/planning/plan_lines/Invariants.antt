use Rattle.std.proofs.Common.{◌≡◌, ◌-◌, List, length}
use Rattle.proof_lines.specs.declared.line.Line.{Line}
use Rattle.report_bytes.specs.Bytes.{pieces}
use Rattle.report_upgrader.specs.Passing.{say_log}
use Rattle.report_upgrader.specs.Plans.{place_of}
use Rattle.report_upgrader.proofs.LogBytes.{IsPlanning}
use Rattle.report_upgrader.proofs.planning.plan_lines.Given as goal

abbrev pub invariant-lines : goal.invariant-lines
invariant-lines l = record {
  planning : (ls : List Line) → length ls ≡ l.count → say_log ls (pieces l.lines) → IsPlanning ls (l.count - l.taken) l.seen.items l.plan.items l.written;
  place : l.place ≡ place_of l.notes (l.count - l.taken);
  long : length l.plan.items ≡ l.count;
}
