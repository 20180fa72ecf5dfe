use Rattle.std.proofs.Common.{◌≡◌, replicate, None}
use Rattle.replica_replay.proofs.keeping.no_spares.Given as goal

abbrev pub invariant-loop-i : goal.invariant-loop-i
invariant-loop-i l = l.spares.items ≡ replicate l._i None
