use Rattle.std.proofs.Common.{◌+◌, ◌-◌}
use Rattle.report_verifier.specs.Verified.{most_report_bytes}
use Rattle.report_verifier.proofs.FedLines.{Taking}
use Rattle.report_verifier.proofs.pieces.read_pieces.Given as goal

abbrev pub invariant-loop-given : goal.invariant-loop-given
invariant-loop-given g l =
    Taking (g.E.Source.left l.initial.report) (g.E.Source.left l.report) (g.E.Source.faults l.initial.report) (g.E.Source.faults l.report) l.count l.initial.verifier l.verifier l.line.items

abbrev pub decreases-loop-given : goal.decreases-loop-given
decreases-loop-given g l = most_report_bytes + 1 - l.count
