use Rattle.std.proofs.Common.{◌+◌, ◌≤◌, length}
use Rattle.report_verifier.proofs.FedLines.{IsOnward}
use Rattle.report_verifier.proofs.held.feed_lines.Given as goal

abbrev pub invariant-lines : goal.invariant-lines
invariant-lines l = record {
  fed : IsOnward l.initial.verifier l.bytes l.verifier l.rest;
  fewer : length l.rest + l.taken ≤ length l.bytes;
}
