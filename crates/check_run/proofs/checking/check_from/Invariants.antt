use Rattle.std.proofs.Common.{◌≡◌, ◌≤◌}
use Rattle.proof_report.specs.Events.{told}
use Rattle.lazy_ground.specs.Cache.{AreKept}
use Rattle.check_run.specs.Checking.{AreWritten}
use Rattle.check_run.proofs.checking.check_from.Given as goal

abbrev pub invariant-loop-ob : goal.invariant-loop-ob
invariant-loop-ob g l =
    AreWritten l.spec l.budget l.ob-index l.tally (g.K.Sink.held l.initial.out) (g.K.Sink.held l.out)
    × (told l.tally ≡ l.ob-index) × (g.K.Sink.faults l.initial.out ≤ g.K.Sink.faults l.out) × AreKept l.spec l.cache
