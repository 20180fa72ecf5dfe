use Rattle.std.proofs.Common.{◌≤◌}
use Rattle.suggest.specs.Writing.{AreWritten}
use Rattle.suggest.proofs.suggesting.suggest_each.Given as goal

abbrev pub invariant-loop-pair : goal.invariant-loop-pair
invariant-loop-pair g l =
    AreWritten l.spec l.budget l.pair-index l.tally (g.K.Sink.held l.initial.out) (g.K.Sink.held l.out)
    × (g.K.Sink.faults l.initial.out ≤ g.K.Sink.faults l.out)
