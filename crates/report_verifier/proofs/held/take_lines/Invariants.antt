use Rattle.std.proofs.Common.{◌+◌, ◌≤◌, length}
use Rattle.report_verifier.specs.Notes.{AreNotedTo}
use Rattle.report_verifier.proofs.FedLines.{IsOnward}
use Rattle.report_verifier.proofs.held.take_lines.Given as goal

abbrev pub invariant-lines : goal.invariant-lines
invariant-lines l = record {
  fed : IsOnward l.initial.verifier l.bytes l.verifier l.rest;
  noted : AreNotedTo l.notes.items l.bytes l.rest;
  fewer : length l.rest + l.taken ≤ length l.bytes;
}
