use Rattle.std.proofs.Common.{◌+◌, ◌≤◌, ◌++◌, length}
use Rattle.report_verifier.specs.Pieces.{IsUnended}
use Rattle.report_verifier.proofs.FedLines.{IsOnward}
use Rattle.report_verifier.proofs.pieces.feed_piece.Given as goal

abbrev pub invariant-lines : goal.invariant-lines
invariant-lines l =
    IsOnward l.initial.verifier (l.initial.line.items ++ l.piece) l.verifier (l.line.items ++ l.rest) × IsUnended l.line.items × (length l.rest + l.taken ≤ length l.piece)
